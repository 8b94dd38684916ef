-- What each round of `shelves::pack` keeps.
use Rattle.std.proofs.Common.{◌≡◌, None}
use Rattle.std.specs.BTreeMap.{is_at}
use Rattle.std.specs.Map.{lookup}
use Rattle.terms.specs.Leaf.{leaf_cmp}
use Rattle.store.specs.declared.slot.Slot.{Slot}
use Rattle.store.specs.Shelves.{place_at}
use Rattle.store.proofs.shelves.pack.Given as goal

-- the leaves that are not left to pack have their entries
abbrev pub invariant-loop-leaf : goal.invariant-loop-leaf
invariant-loop-leaf l =
    (q : Slot) → lookup (is_at (leaf_cmp q.leaf)) l.leaf-iterator ≡ None → place_at l.packed.entries q ≡ place_at l.shelves.entries q
