use Rattle.std.proofs.Common.{◌≡◌, ◌++◌, ℕ, List, Bor, OnOk, ap, string_bytes, subst, ◌∙◌}
use Rattle.std.specs.List.{flat_map}
use Rattle.databases.specs.PlayText.{told_line}
use Rattle.databases.proofs.PlayTextLemmas.{told_pieces}
use Rattle.databases.proofs.play_text.put_told.Goals as goal

pub returns : goal.returns
returns c =
    let told_all = told_pieces c.args.name.now c.args.text.now c.in_ok-lines.lines.items c.in_ok-lines.ensures in
    let all = ap (flat_map (λ (line : Bor (List ℕ)). told_line c.args.name.now line.now)) c.as_slice.ensures.value ∙ told_all in
    subst (λ (lines : List ℕ). OnOk c.put_lines.result (string_bytes c.put_lines.new.out ≡ string_bytes c.args.out.now ++ lines)) all c.put_lines.ensures
