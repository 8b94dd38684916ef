-- What each round of `unite::alone` keeps.
use Rattle.std.proofs.Common.{◌≡◌, ◌++◌, drop, map}
use Rattle.answers.specs.Laid.{row_of}
use Rattle.answers.proofs.unite.alone.Given as goal

abbrev pub invariant-loop-row : goal.invariant-loop-row
invariant-loop-row l = map (λ row. row.first) l.found.items ++ map (row_of l.columns) (drop l.row-index l.rows) ≡ map (row_of l.columns) l.rows
