-- The places that are left, from what the earlier ones made, do what all do.
use Rattle.std.proofs.Common.{◌≡◌, drop}
use Rattle.site.specs.Locks.{stops}
use Rattle.site.specs.LockTable.{change_each}
use Rattle.site.proofs.lock_table.release_at.Given as goal

abbrev pub invariant-loop-place : goal.invariant-loop-place
invariant-loop-place l = change_each (stops l.ticket l.drawn) (drop l.place-index l.places) l.locks.items ≡ change_each (stops l.ticket l.drawn) l.places l.initial.locks.items
