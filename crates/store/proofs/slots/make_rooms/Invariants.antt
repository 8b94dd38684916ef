-- What each round of `slots::make_rooms` keeps.
use Rattle.std.proofs.Common.{◌≡◌, List, Some, None, IsSome}
use Rattle.terms.specs.declared.value.Value.{Value}
use Rattle.store.specs.declared.slot.Slot.{Slot}
use Rattle.store.specs.Entries.{entry_at, part_at}
use Rattle.store.proofs.slots.make_rooms.Given as goal

-- no part has changed, and what is not left to look at has its room
abbrev pub invariant-loop-slot : goal.invariant-loop-slot
invariant-loop-slot l =
    ((q : Slot) → part_at l.slots.entries q ≡ part_at l.initial.slots.entries q)
    × ((q : Slot) (part : List Value) → entry_at l.changes.entries q ≡ Some (Some part) → entry_at l.slot-iterator q ≡ None → IsSome (entry_at l.slots.entries q))
