-- What each round of `shelves::fill` keeps.
use Rattle.std.proofs.Common.{◌≡◌, unwrap_or, length}
use Rattle.std.specs.BTreeMap.{IsOrdered}
use Rattle.terms.specs.Leaf.{leaf_cmp}
use Rattle.store.specs.declared.slot.Slot.{Slot}
use Rattle.store.specs.Entries.{entry_at}
use Rattle.store.specs.Shelves.{place_at, part_on}
use Rattle.store.proofs.Rooms.{HasRoomsAt}
use Rattle.store.proofs.shelves.fill.Given as goal

-- the changes that are left over what was made are all of them over what was there
abbrev pub invariant-loop-slot : goal.invariant-loop-slot
invariant-loop-slot l =
    ((q : Slot) → unwrap_or (entry_at l.rest.entries q) (part_on l.shelves.entries q) ≡ unwrap_or (entry_at l.fn.changes.entries q) (part_on l.initial.shelves.entries q))
    × HasRoomsAt l.rest.entries (place_at l.shelves.entries)
    × IsOrdered leaf_cmp l.shelves

abbrev pub decreases-loop-slot : goal.decreases-loop-slot
decreases-loop-slot l = length l.rest.entries
