-- What each round of `slots::copy_slots` keeps.
use Rattle.std.proofs.Common.{◌≡◌, None}
use Rattle.store.specs.declared.slot.Slot.{Slot}
use Rattle.store.specs.Entries.{entry_at}
use Rattle.store.proofs.slots.copy_slots.Given as goal

-- what is not left to copy is copied
abbrev pub invariant-loop-slot : goal.invariant-loop-slot
invariant-loop-slot l = (q : Slot) → entry_at l.slot-iterator q ≡ None → entry_at l.copies.entries q ≡ entry_at l.slots.entries q
