-- What each round of `shelves::copy_shelf` keeps.
use Rattle.std.proofs.Common.{◌≡◌, None, false}
use Rattle.std.specs.BTreeMap.{is_at}
use Rattle.std.specs.declared.cmp.Ordering.TheVariants.{Equal}
use Rattle.terms.specs.Leaf.{leaf_cmp}
use Rattle.store.specs.declared.slot.Slot.{Slot}
use Rattle.store.specs.Entries.{entry_at}
use Rattle.store.specs.Shelves.{key_at}
use Rattle.store.proofs.shelves.copy_shelf.Given as goal

-- what is not left to copy is copied, and nothing else
abbrev pub invariant-loop-key : goal.invariant-loop-key
invariant-loop-key l =
    ((q : Slot) → leaf_cmp l.leaf q.leaf ≡ Equal → entry_at l.initial.copies.entries q ≡ None → key_at l.key-iterator q.key ≡ None → entry_at l.copies.entries q ≡ key_at l.shelf.entries q.key)
    × ((q : Slot) → is_at (leaf_cmp l.leaf) q.leaf ≡ false → entry_at l.copies.entries q ≡ entry_at l.initial.copies.entries q)
