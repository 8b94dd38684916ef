-- The shelves that hold a site's parts leaf by leaf, which a reader may skip.
use Rattle.std.specs.Prelude.{ℤ, List, [], ◌∷◌, ◌++◌, Option, Some, None, unwrap_or, option_to_list}
use Rattle.std.specs.BTreeMap.{BTreeMap, is_at}
use Rattle.std.specs.Map.{lookup}
use Rattle.std.specs.Ordering.{int_cmp}
use Rattle.terms.specs.declared.leaf.Leaf.{Leaf}
use Rattle.terms.specs.declared.value.Value.{Value}
use Rattle.terms.specs.Leaf.{leaf_cmp}
use Rattle.store.specs.declared.slot.Slot.{Slot}
use Rattle.store.specs.Slot.{slot_of}
use Rattle.store.specs.Entries.{Entries}

-- the entries of one leaf, by key
abbrev pub Shelf : Type 0
Shelf = List (ℤ × Option (List Value))

abbrev pub Shelves : Type 0
Shelves = List (Leaf × BTreeMap ℤ (Option (List Value)))

abbrev pub entries_on : Option (BTreeMap ℤ (Option (List Value))) → Shelf
entries_on None = []
entries_on (Some shelf) = shelf.entries

-- the shelf of a leaf, which is empty where the leaf has none
abbrev pub shelf_at : Shelves → Leaf → Shelf
shelf_at shelves leaf = entries_on (lookup (is_at (leaf_cmp leaf)) shelves)

-- the entry at a key
abbrev pub key_at : Shelf → ℤ → Option (Option (List Value))
key_at shelf key = lookup (is_at (int_cmp key)) shelf

-- the entry of a slot
abbrev pub place_at : Shelves → Slot → Option (Option (List Value))
place_at shelves slot = key_at (shelf_at shelves slot.leaf) slot.key

-- the part that stands at a slot
abbrev pub part_on : Shelves → Slot → Option (List Value)
part_on shelves slot = unwrap_or (place_at shelves slot) None

-- the parts of a shelf in the order of their keys
abbrev pub shelf_parts : Shelf → List (List Value)
shelf_parts [] = []
shelf_parts (entry ∷ shelf) = option_to_list entry.1 ++ shelf_parts shelf

-- a shelf's entries as those of slots
abbrev pub on_leaf : Leaf → Shelf → Entries
on_leaf leaf [] = []
on_leaf leaf (entry ∷ shelf) = (slot_of leaf entry.0, entry.1) ∷ on_leaf leaf shelf

-- all entries as those of slots
abbrev pub all_on : Shelves → Entries
all_on [] = []
all_on (shelf ∷ shelves) = on_leaf shelf.0 shelf.1.entries ++ all_on shelves
