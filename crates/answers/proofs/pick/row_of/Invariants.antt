-- What each round of `pick::row_of` keeps.
use Rattle.std.proofs.Common.{◌≡◌, ◌++◌, drop}
use Rattle.answers.specs.Laid.{row_of}
use Rattle.answers.proofs.pick.row_of.Given as goal

abbrev pub invariant-loop-column : goal.invariant-loop-column
invariant-loop-column l = l.values.items ++ row_of (drop l.column-index l.columns) l.row ≡ row_of l.columns l.row
