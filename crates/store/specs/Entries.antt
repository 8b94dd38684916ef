-- The entries of the map that holds changes, which a reader may skip.
use Rattle.std.specs.Prelude.{◌≡◌, List, [], ◌∷◌, ◌++◌, Option, Some, None, IsSome, unwrap_or, option_to_list, if◌then◌else◌, filter}
use Rattle.std.specs.BTreeMap.{is_at}
use Rattle.std.specs.Map.{lookup}
use Rattle.std.specs.declared.cmp.Ordering.TheVariants.{Less, Greater}
use Rattle.terms.specs.declared.leaf.Leaf.{Leaf}
use Rattle.terms.specs.declared.value.Value.{Value}
use Rattle.terms.specs.Leaf.{leaf_cmp}
use Rattle.store.specs.declared.slot.Slot.{Slot}
use Rattle.store.specs.Slot.{slot_cmp}
use Rattle.store.specs.Content.{is_of}

abbrev pub Entries : Type 0
Entries = List (Slot × Option (List Value))

-- the entry of a slot
abbrev pub entry_at : Entries → Slot → Option (Option (List Value))
entry_at entries slot = lookup (is_at (slot_cmp slot)) entries

-- the part that stands at a slot; an entry without a part is room for one
abbrev pub part_at : Entries → Slot → Option (List Value)
part_at entries slot = unwrap_or (entry_at entries slot) None

-- the entries of a leaf
abbrev pub entries_of : Leaf → Entries → Entries
entries_of leaf entries = filter (λ entry. is_of leaf entry.0) entries

-- one leaf stands before another, and a third behind it
abbrev pub Encloses : Leaf → Leaf → Leaf → Type 0
Encloses before leaf after = (leaf_cmp before leaf ≡ Less) × (leaf_cmp after leaf ≡ Greater)

-- the parts of a leaf in the order of the entries
abbrev pub parts_of : Leaf → Entries → List (List Value)
parts_of leaf [] = []
parts_of leaf (entry ∷ entries) = if is_of leaf entry.0 then option_to_list entry.1 ++ parts_of leaf entries else parts_of leaf entries

-- there is an entry wherever a part is to be put
abbrev pub HasRooms : Entries → Entries → Type 0
HasRooms changes entries = (slot : Slot) (part : List Value) → entry_at changes slot ≡ Some (Some part) → IsSome (entry_at entries slot)
