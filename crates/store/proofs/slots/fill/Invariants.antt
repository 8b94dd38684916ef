-- What each round of `slots::fill` keeps.
use Rattle.std.proofs.Common.{◌≡◌, unwrap_or, length}
use Rattle.store.specs.declared.slot.Slot.{Slot}
use Rattle.store.specs.Entries.{entry_at, part_at, HasRooms}
use Rattle.store.proofs.slots.fill.Given as goal

-- the changes that are left over what was made are all of them over what was there
abbrev pub invariant-loop-slot : goal.invariant-loop-slot
invariant-loop-slot l =
    ((q : Slot) → unwrap_or (entry_at l.rest.entries q) (part_at l.slots.entries q) ≡ unwrap_or (entry_at l.fn.changes.entries q) (part_at l.initial.slots.entries q))
    × HasRooms l.rest.entries l.slots.entries

abbrev pub decreases-loop-slot : goal.decreases-loop-slot
decreases-loop-slot l = length l.rest.entries
