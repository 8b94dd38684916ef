-- What each round of `put_parts` keeps.
use Rattle.std.proofs.Common.{◌≡◌, ◌⊎◌, IsSome, drop}
use Rattle.std.specs.FinMap as fin
use Rattle.terms.specs.declared.leaf.Leaf.{Leaf}
use Rattle.store.specs.declared.slot.Slot.{Slot}
use Rattle.store.specs.Content.{made_by}
use Rattle.world.specs.Filling.{kept_with}
use Rattle.world.proofs.start.put_parts.Given as goal

-- what the parts of the rest make of what is there now, those of all make of what was there; and what is there now is of the leaf, or was there
abbrev pub invariant-loop-row : goal.invariant-loop-row
invariant-loop-row l = record {
  kept : (name : Leaf) → kept_with l.leaf (drop l.row-index l.rows) name (made_by l.parts name) ≡ kept_with l.leaf l.rows name (made_by l.fn.parts name);
  within : (slot : Slot) → IsSome (fin.get l.parts slot) → (slot.leaf ≡ l.leaf.name) ⊎ IsSome (fin.get l.fn.parts slot);
}
