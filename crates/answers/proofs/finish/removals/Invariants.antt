-- What each round of `finish::removals` keeps.
use Rattle.std.proofs.Common.{◌≡◌, ◌++◌, drop, map}
use Rattle.answers.specs.Outcome.{removed}
use Rattle.answers.proofs.finish.removals.Given as goal

abbrev pub invariant-loop-row : goal.invariant-loop-row
invariant-loop-row l = l.changes.items ++ map removed (drop l.row-index l.rows) ≡ map removed l.rows
