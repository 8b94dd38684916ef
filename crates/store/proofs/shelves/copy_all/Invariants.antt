-- What each round of `shelves::copy_all` keeps.
use Rattle.std.proofs.Common.{◌≡◌, None, IsSome}
use Rattle.std.specs.BTreeMap.{is_at}
use Rattle.std.specs.List.Sorted.{IsStrictlySortedBy}
use Rattle.std.specs.Map.{lookup, keys_of}
use Rattle.terms.specs.Leaf.{leaf_cmp}
use Rattle.store.specs.declared.slot.Slot.{Slot}
use Rattle.store.specs.Entries.{entry_at}
use Rattle.store.specs.Shelves.{place_at}
use Rattle.store.proofs.shelves.copy_all.Given as goal

-- the leaves that are not left to copy are copied, and no others
abbrev pub invariant-loop-leaf : goal.invariant-loop-leaf
invariant-loop-leaf l =
    ((q : Slot) → lookup (is_at (leaf_cmp q.leaf)) l.leaf-iterator ≡ None → entry_at l.copies.entries q ≡ place_at l.shelves.entries q)
    × ((q : Slot) → IsSome (lookup (is_at (leaf_cmp q.leaf)) l.leaf-iterator) → entry_at l.copies.entries q ≡ None)
    × IsStrictlySortedBy leaf_cmp (keys_of l.leaf-iterator)
