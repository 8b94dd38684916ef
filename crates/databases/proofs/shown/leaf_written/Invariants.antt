use Rattle.std.proofs.Common.{◌≡◌, drop}
use Rattle.databases.specs.Shown.{written_leaf}
use Rattle.databases.proofs.shown.leaf_written.Given as goal

abbrev pub invariant-loop-leaf : goal.invariant-loop-leaf
invariant-loop-leaf l = written_leaf l.name (drop l.leaf-index l.leaves) ≡ written_leaf l.name l.leaves
