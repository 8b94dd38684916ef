-- What each round of `change::writes_of` keeps.
use Rattle.std.proofs.Common.{◌≡◌, ◌++◌, drop}
use Rattle.answers.specs.Outcome.{writes_of}
use Rattle.answers.proofs.change.writes_of.Given as goal

abbrev pub invariant-loop-leaf : goal.invariant-loop-leaf
invariant-loop-leaf l = l.writes.items ++ writes_of l.relation l.changes (drop l.leaf-index l.leaves) ≡ writes_of l.relation l.changes l.leaves
