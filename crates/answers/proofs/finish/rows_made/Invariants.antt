-- What each round of `finish::rows_made` keeps.
use Rattle.std.proofs.Common.{◌≡◌, ◌++◌, drop, map}
use Rattle.answers.specs.Laid.{row_of}
use Rattle.answers.proofs.finish.rows_made.Given as goal

abbrev pub invariant-loop-row : goal.invariant-loop-row
invariant-loop-row l = l.found.items ++ map (row_of l.columns) (drop l.row-index l.rows) ≡ map (row_of l.columns) l.rows
