-- What each round of `localize::once` keeps.
use Rattle.std.proofs.Common.{◌≡◌, ◌++◌, drop}
use Rattle.plan.specs.Located.{once, once_behind}
use Rattle.plan.proofs.localize.once.Given as goal

abbrev pub invariant-loop-col : goal.invariant-loop-col
invariant-loop-col l = l.found.items ++ once_behind l.found.items (drop l.col-index l.columns) ≡ once l.columns
