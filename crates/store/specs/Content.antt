-- The content of a leaf and intentions, as finite maps.
use Rattle.std.specs.Prelude.{◌≡◌, ℤ, List, [], ◌∷◌, Bool, Option, Some, None, IfSome, IsSome, unwrap_or, if◌then◌else◌}
use Rattle.std.specs.Coded.{Coded, coded_list, coded_option}
use Rattle.std.specs.FinMap as map
use Rattle.std.specs.List.{filter, list_all, list_any}
use Rattle.std.specs.Ordering.{int_cmp, is_eq}
use Rattle.terms.specs.declared.cond.Cond.{Cond}
use Rattle.terms.specs.declared.leaf.Leaf.{Leaf}
use Rattle.terms.specs.declared.value.Value.{Value}
use Rattle.terms.specs.contracts.value.Value as value
use Rattle.terms.specs.Cond.{conds_hold}
use Rattle.terms.specs.Leaf.{leaf_cmp}
use Rattle.terms.specs.Row.{key_of}
use Rattle.store.specs.declared.slot.Slot.{Slot}
use Rattle.store.specs.Slot.{slot_cmp, slot_code}

-- what a leaf keeps: for each key at most one part
abbrev pub Content : Type 0
Content = map.FinMap int_cmp (List Value)

-- intentions: for each slot a part to put, or None where the part is to go
abbrev pub Changes : Type 0
Changes = map.FinMap slot_cmp (Option (List Value))

abbrev pub changes_code : Coded Changes
changes_code = map.code slot_code (coded_option (coded_list (value.the_row).coded))

-- a content with a part at a key, or with none there
abbrev pub set_at : ℤ → Option (List Value) → Content → Content
set_at key None content = map.remove content key
set_at key (Some part) content = map.insert content key part

-- whether a slot is of the leaf
abbrev pub is_of : Leaf → Slot → Bool
is_of leaf slot = is_eq (leaf_cmp leaf slot.leaf)

-- a leaf's content with these entries set, the last first
abbrev pub with_entries : Leaf → List (Slot × Option (List Value)) → Content → Content
with_entries leaf [] content = content
with_entries leaf (entry ∷ entries) content = if is_of leaf entry.0 then set_at entry.0.key entry.1 (with_entries leaf entries content) else with_entries leaf entries content

-- what changes make of a leaf's content
abbrev pub changed : Leaf → Changes → Content → Content
changed leaf changes content = with_entries leaf (map.entries changes) content

-- what changes make of nothing: a store's parts are kept as the changes that lead to them
abbrev pub made_by : Changes → Leaf → Content
made_by changes leaf = changed leaf changes map.empty

-- the part that changes put at a slot, if they put one
abbrev pub put_at : Changes → Slot → Option (List Value)
put_at changes slot = unwrap_or (map.get changes slot) None

-- each part has the key that it stands under
abbrev pub IsKeyed : Content → Type 0
IsKeyed content = (key : ℤ) → IfSome (map.get content key) (λ part. key_of part ≡ key)

-- each part that is put has the key of its slot
abbrev pub AreKeyed : Changes → Type 0
AreKeyed changes = (slot : Slot) (part : List Value) → map.get changes slot ≡ Some (Some part) → key_of part ≡ slot.key

-- there is an entry wherever changes put a part
abbrev pub HasRoomFor : Changes → Changes → Type 0
HasRoomFor changes kept = (slot : Slot) (part : List Value) → map.get changes slot ≡ Some (Some part) → IsSome (map.get kept slot)

-- whether changes say something of a leaf
abbrev pub touches : Leaf → Changes → Bool
touches leaf changes = list_any (is_of leaf) (map.keys changes)

-- whether changes say nothing of other leaves than these
abbrev pub are_within : List Leaf → Changes → Bool
are_within leaves changes = list_all (λ slot. list_any (λ leaf. is_of leaf slot) leaves) (map.keys changes)

-- a leaf's parts that meet conditions, in the order of their keys
abbrev pub parts : List Cond → Content → List (List Value)
parts conds content = filter (conds_hold conds) (map.values content)
