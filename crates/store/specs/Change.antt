-- The changes of one leaf, key by key.
use Rattle.std.specs.Prelude.{ℤ, List, Option, filter, map}
use Rattle.std.specs.FinMap as fin
use Rattle.std.specs.Option.{option_copied}
use Rattle.terms.specs.declared.leaf.Leaf.{Leaf}
use Rattle.terms.specs.declared.value.Value.{Value}
use Rattle.store.specs.declared.change.Change.{Change}
use Rattle.store.specs.declared.slot.Slot.{Slot}
use Rattle.store.specs.Content.{Changes, is_of}

-- a key, with the part to put there, or None where the part is to go
abbrev pub change_of : Change → ℤ × Option (List Value)
change_of change = (change.key, option_copied change.part)

-- the entries of a leaf, by their keys
abbrev pub by_key : Leaf → List (Slot × Option (List Value)) → List (ℤ × Option (List Value))
by_key leaf entries = map (λ entry. (entry.0.key, entry.1)) (filter (λ entry. is_of leaf entry.0) entries)

-- what changes say of a leaf, in the order of its keys
abbrev pub changes_of : Leaf → Changes → List (ℤ × Option (List Value))
changes_of leaf changes = by_key leaf (fin.entries changes)
