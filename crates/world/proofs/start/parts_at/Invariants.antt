-- What each round of `parts_at` keeps.
use Rattle.std.proofs.Common.{◌≡◌, IsSome, drop}
use Rattle.std.specs.FinMap as fin
use Rattle.terms.specs.declared.leaf.Leaf.{Leaf}
use Rattle.catalog.specs.FragmentLeaf.{catalogue_leaves, schemas_of}
use Rattle.catalog.specs.Relation.{catalogue_of}
use Rattle.store.specs.declared.slot.Slot.{Slot}
use Rattle.store.specs.Content.{made_by}
use Rattle.protocol.specs.Parts.{In}
use Rattle.world.specs.Filling.{filled}
use Rattle.world.specs.Leaves.{known_leaves}
use Rattle.world.proofs.start.parts_at.Given as goal

-- what the rest of the leaves make of what is there now, all make of nothing; and what is there now is of leaves that the site knows
abbrev pub invariant-loop-leaf : goal.invariant-loop-leaf
invariant-loop-leaf l = record {
  kept : (name : Leaf) → filled l.whole l.site (drop l.leaf-index l.leaf-items) name (made_by l.parts name) ≡ filled l.whole l.site (catalogue_leaves (catalogue_of l.catalog)) name fin.empty;
  within : (slot : Slot) → IsSome (fin.get l.parts slot) → In slot.leaf (known_leaves (schemas_of (catalogue_of l.catalog)));
}
