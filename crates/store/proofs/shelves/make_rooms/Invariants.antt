-- What each round of `shelves::make_rooms` keeps.
use Rattle.std.proofs.Common.{◌≡◌, List, Some, None, IsSome}
use Rattle.std.specs.BTreeMap.{IsOrdered}
use Rattle.terms.specs.declared.value.Value.{Value}
use Rattle.terms.specs.Leaf.{leaf_cmp}
use Rattle.store.specs.declared.slot.Slot.{Slot}
use Rattle.store.specs.Entries.{entry_at}
use Rattle.store.specs.Shelves.{place_at, part_on}
use Rattle.store.proofs.shelves.make_rooms.Given as goal

-- no part has changed, and what is not left to look at has its room
abbrev pub invariant-loop-slot : goal.invariant-loop-slot
invariant-loop-slot l =
    ((q : Slot) → part_on l.shelves.entries q ≡ part_on l.initial.shelves.entries q)
    × ((q : Slot) (part : List Value) → entry_at l.changes.entries q ≡ Some (Some part) → entry_at l.slot-iterator q ≡ None → IsSome (place_at l.shelves.entries q))
    × IsOrdered leaf_cmp l.shelves
