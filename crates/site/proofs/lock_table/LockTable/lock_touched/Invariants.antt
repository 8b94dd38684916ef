-- The locks before the place were granted where changes touch them, the others not yet.
use Rattle.std.proofs.Common.{◌≡◌, ◌++◌, map, take, drop}
use Rattle.site.specs.Recovery.{grants}
use Rattle.site.proofs.lock_table.LockTable.lock_touched.Given as goal

abbrev pub invariant-loop-place : goal.invariant-loop-place
invariant-loop-place l = l.self.items ≡ map (grants l.ticket l.changes) (take l.place l.initial.self.items) ++ drop l.place l.initial.self.items
