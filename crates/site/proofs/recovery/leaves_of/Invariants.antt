-- The leaves so far, and those of the locks that are left, are all.
use Rattle.std.proofs.Common.{◌≡◌, ◌++◌, drop}
use Rattle.site.specs.Locks.{leaves_in}
use Rattle.site.proofs.recovery.leaves_of.Given as goal

abbrev pub invariant-loop-locks : goal.invariant-loop-locks
invariant-loop-locks l = l.leaves.items ++ leaves_in (drop l.locks-index l.locks) ≡ leaves_in l.locks
