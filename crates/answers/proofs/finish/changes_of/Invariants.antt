-- What each round of `finish::changes_of` keeps.
use Rattle.std.proofs.Common.{◌≡◌, ◌++◌, drop}
use Rattle.std.specs.Option.{option_map}
use Rattle.answers.specs.Outcome.{changes_of}
use Rattle.answers.proofs.finish.changes_of.Given as goal

abbrev pub invariant-loop-row : goal.invariant-loop-row
invariant-loop-row l = option_map (λ rest. l.changes.items ++ rest) (changes_of l.sets (drop l.row-index l.rows)) ≡ changes_of l.sets l.rows
