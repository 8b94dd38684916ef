-- What each round of `change::put_leaf_writes` keeps.
use Rattle.std.proofs.Common.{◌≡◌, ◌++◌, drop}
use Rattle.answers.specs.Outcome.{leaf_changes}
use Rattle.answers.proofs.change.put_leaf_writes.Given as goal

abbrev pub invariant-loop-change : goal.invariant-loop-change
invariant-loop-change l = l.writes.items ++ leaf_changes l.leaf (drop l.change-index l.changes) ≡ l.fn.writes.items ++ leaf_changes l.leaf l.changes
