use Rattle.std.proofs.Common.{ℕ, Bor, List, ◌++◌, ap, map, ◌∙◌}
use Rattle.clap.specs.Words.{found_of}
use Rattle.lines.proofs.NextFilesLemmas.{files_of-entered}
use Rattle.lines.proofs.next_files.files_named.Goals as goal

pub returns-in_default-get_strs : goal.returns-in_default-get_strs
returns-in_default-get_strs c = ap (map (λ (file : Bor (List ℕ)). file.now)) c.new-files.ensures.items ∙ files_of-entered _ (found_of c.in-Some.entered.now) _ c.in-Some.ensures.rows c.in_default-get_strs.ensures

pub returns : goal.returns
returns c =
    ap (map (λ (file : Bor (List ℕ)). file.now)) (c.in_ok-extend_from_slice.ensures.items ∙ ap (λ none. none ++ c.in-Some-get_strs.named.now) c.new-files.ensures.items)
    ∙ files_of-entered _ (found_of c.in-Some.entered.now) _ c.in-Some.ensures.rows c.in-Some-get_strs.ensures
