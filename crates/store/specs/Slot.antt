-- Slots: a key's place in a leaf, and their order.
use Rattle.std.specs.Prelude.{ℤ}
use Rattle.std.specs.Coded.{Coded}
use Rattle.std.specs.Ordering.{int_cmp, ordering_then}
use Rattle.std.specs.declared.cmp.Ordering.{Ordering}
use Rattle.terms.specs.declared.leaf.Leaf.{Leaf}
use Rattle.terms.specs.Leaf.{leaf_cmp}
use Rattle.store.specs.declared.slot.Slot.{Slot}
use Rattle.store.specs.contracts.slot.Slot as slot

-- the place of a key in a leaf
abbrev pub slot_of : Leaf → ℤ → Slot
slot_of leaf key = record { leaf = leaf; key = key }

-- by leaf, and in a leaf by key
abbrev pub slot_cmp : Slot → Slot → Ordering
slot_cmp one other = ordering_then (leaf_cmp one.leaf other.leaf) (int_cmp one.key other.key)

abbrev pub slot_code : Coded Slot
slot_code = (slot.the_row).coded
