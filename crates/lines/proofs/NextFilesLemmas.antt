-- Lemmas on the files of the catalogues after the first.
use Rattle.std.proofs.Common.{◌≡◌, ◌<◌, ℕ, Bor, List, [], Option, Some, None, Result, Ok, Err, IfErr, IsErrAnd, codes, length, map, nat_le, option_map, unwrap_or, ap, subst, sym, ◌∙◌}
use Rattle.std.proofs.lemmas.Bool.{lt-leb}
use Rattle.std.proofs.lemmas.List.{length-map}
use Rattle.clap.specs.Words.{Row, Text, all_of, kind_of, matched_of, raw_values, rows_of}
use Rattle.clap.specs.declared.error.Error.{Error}
use Rattle.clap.specs.declared.error.kind.ErrorKind.{ErrorKind}
use Rattle.clap.specs.declared.error.kind.ErrorKind.TheVariants.{OutOfMemory, TooManyValues}
use Rattle.clap.specs.declared.parser.matches.Found.{Found}
use Rattle.clap.proofs.WalkLemmas.{raw_values-rows}
use Rattle.lines.specs.NextFiles.{IsTooMany, files_of, no_memory_for_files, too_many}

-- what was given to the command that was entered
pub files_of-entered : (entered : Option (Text × List Row)) (found : Found) (named : Option (List Text)) → Some (rows_of found) ≡ option_map (λ p. p.1) entered → named ≡ option_map raw_values (matched_of found (codes "NEXT")) → unwrap_or named [] ≡ files_of entered
files_of-entered None found named r n = absurd (cc)
files_of-entered (Some entered) found named r n =
    let rows_are : rows_of found ≡ entered.1 = cc in
    ap (λ texts. unwrap_or texts []) (n ∙ raw_values-rows found (codes "NEXT")) ∙ ap (λ rows. unwrap_or (all_of (codes "NEXT") rows) []) rows_are

-- what is wrong with so many
pub sixteen_or_more : (files : List (Bor Text)) (named : List Text) (kind : ErrorKind) (count : ℕ) → kind ≡ TooManyValues → map (λ file. file.now) files ≡ named → count ≡ length files → 15 < count → IsTooMany named kind
sixteen_or_more files named kind count k f c more =
    subst (IsTooMany named) (sym k) (too_many (ap (λ n. nat_le n 15) (ap length (sym f) ∙ length-map files (λ file. file.now) ∙ sym c) ∙ lt-leb count 15 more))

pub memory_ran_out_of_files : {T : Type 0} (files : List Text) (answered : Result T Error) → IsErrAnd answered (λ error. kind_of error ≡ OutOfMemory) → IfErr answered (λ error. IsTooMany files (kind_of error))
memory_ran_out_of_files files (Ok given) k = tt
memory_ran_out_of_files files (Err error) k = subst (IsTooMany files) (sym k) no_memory_for_files
