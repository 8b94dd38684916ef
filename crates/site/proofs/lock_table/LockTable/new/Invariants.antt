-- The locks so far, and those of the leaves that are left, are all; each leaf so far is found.
use Rattle.std.proofs.Common.{◌≡◌, ◌++◌, map, drop}
use Rattle.site.specs.Locks.{free}
use Rattle.site.specs.LockTable.{IsIndexed}
use Rattle.site.proofs.lock_table.LockTable.new.Given as goal

abbrev pub invariant-loop-leaf : goal.invariant-loop-leaf
invariant-loop-leaf l = (l.locks.items ++ map free (drop l.leaf-index l.leaves) ≡ map free l.leaves) × IsIndexed l.places.entries l.locks.items
