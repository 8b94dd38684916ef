-- What is copied of the shelves, leaf by leaf and key by key.
use Rattle.std.proofs.Common.{◌≡◌, ℤ, List, ◌∷◌, true, false, cond, Option, Some, None, IsSome, is_some, refl, ap, sym, ◌∙◌, subst}
use Rattle.std.specs.BTreeMap.{BTreeMap, is_at}
use Rattle.std.specs.Cmp.{int_cmp_total, eq_by_cmp_equiv}
use Rattle.std.specs.FinMap.{int_cmp-IsAntisymmetric}
use Rattle.std.specs.List.Sorted.{IsStrictlySortedBy}
use Rattle.std.specs.Map.{lookup, keys_of}
use Rattle.std.specs.Ordering.{int_cmp, is_eq, ordering_then}
use Rattle.std.specs.declared.cmp.Ordering.{Ordering}
use Rattle.std.specs.declared.cmp.Ordering.TheVariants.{Less, Equal, Greater}
use Rattle.std.proofs.lemmas.Map.Keys.{sorted_head}
use Rattle.terms.specs.declared.leaf.Leaf.{Leaf}
use Rattle.terms.specs.declared.value.Value.{Value}
use Rattle.terms.specs.Leaf.{leaf_cmp}
use Rattle.store.specs.declared.slot.Slot.{Slot}
use Rattle.store.specs.Slot.{slot_of, slot_cmp}
use Rattle.store.specs.Orders.{leaf_cmp_total, leaf_cmp-IsAntisymmetric}
use Rattle.store.specs.Entries.{Entries, entry_at}
use Rattle.store.specs.Shelves.{Shelf, Shelves, entries_on, key_at, place_at}
use Rattle.store.proofs.Flat.{none_above}

-- one entry more of a leaf
module _ (leaf : Leaf) (key : ℤ) (part : Option (List Value)) (start copies after : Entries)
    (updates : (q : Slot) → entry_at after q ≡ cond (is_at (slot_cmp (slot_of leaf key)) q) (Some part) (entry_at copies q)) where
  pub key_copied : (all rest new : Shelf) → ((q : Slot) → leaf_cmp leaf q.leaf ≡ Equal → entry_at start q ≡ None → key_at rest q.key ≡ None → entry_at copies q ≡ key_at all q.key) → rest ≡ (key, part) ∷ new → key_at all key ≡ Some part →
      (q : Slot) → leaf_cmp leaf q.leaf ≡ Equal → entry_at start q ≡ None → key_at new q.key ≡ None → entry_at after q ≡ key_at all q.key
  key_copied all rest new so_far step turn q tie none gone =
      updates q
      ∙ ap (λ r. cond (is_eq (ordering_then r (int_cmp key q.key))) (Some part) (entry_at copies q)) tie
      ∙ elim (int_cmp key q.key) as (λ r. int_cmp key q.key ≡ r → cond (is_eq r) (Some part) (entry_at copies q) ≡ key_at all q.key) [
        | Less ↦ λ is. so_far q tie none (left is refl)
        | Equal ↦ λ is. sym turn ∙ ap (key_at all) (int_cmp-IsAntisymmetric key q.key is)
        | Greater ↦ λ is. so_far q tie none (left is refl)
      ] refl
    where
      left : {r : Ordering} → int_cmp key q.key ≡ r → is_eq r ≡ false → key_at rest q.key ≡ None
      left {r} is apart =
          ap (λ es. key_at es q.key) step
          ∙ ap (λ b. cond b (Some part) (key_at new q.key)) (sym ((eq_by_cmp_equiv int_cmp_total).symm key q.key) ∙ ap is_eq is ∙ apart) ∙ gone

  pub others_copied : ((q : Slot) → is_at (leaf_cmp leaf) q.leaf ≡ false → entry_at copies q ≡ entry_at start q) → (q : Slot) → is_at (leaf_cmp leaf) q.leaf ≡ false → entry_at after q ≡ entry_at start q
  others_copied so_far q apart =
      updates q
      ∙ elim (leaf_cmp leaf q.leaf) as (λ r. is_eq r ≡ false → cond (is_eq (ordering_then r (int_cmp key q.key))) (Some part) (entry_at copies q) ≡ entry_at copies q) [
        | Less ↦ λ is. refl
        | Equal ↦ λ is. cc
        | Greater ↦ λ is. refl
      ] apart
      ∙ so_far q apart

-- one leaf more
module _ (all rest new : Shelves) (copies after : Entries) (leaf : Leaf) (shelf : BTreeMap ℤ (Option (List Value)))
    (step : rest ≡ (leaf, shelf) ∷ new) (sorted : IsStrictlySortedBy leaf_cmp (keys_of rest))
    (others : (q : Slot) → is_at (leaf_cmp leaf) q.leaf ≡ false → entry_at after q ≡ entry_at copies q) where
  found_in : (l : Leaf) → lookup (is_at (leaf_cmp l)) rest ≡ cond (is_at (leaf_cmp leaf) l) (Some shelf) (lookup (is_at (leaf_cmp l)) new)
  found_in l = ap (lookup (is_at (leaf_cmp l))) step ∙ ap (λ b. cond b (Some shelf) (lookup (is_at (leaf_cmp l)) new)) ((eq_by_cmp_equiv leaf_cmp_total).symm l leaf)

  pub leaf_copied : ((q : Slot) → lookup (is_at (leaf_cmp q.leaf)) rest ≡ None → entry_at copies q ≡ place_at all q) → ((q : Slot) → IsSome (lookup (is_at (leaf_cmp q.leaf)) rest) → entry_at copies q ≡ None) → lookup (is_at (leaf_cmp leaf)) all ≡ Some shelf →
      ((q : Slot) → leaf_cmp leaf q.leaf ≡ Equal → entry_at copies q ≡ None → entry_at after q ≡ key_at shelf.entries q.key) → (q : Slot) → lookup (is_at (leaf_cmp q.leaf)) new ≡ None → entry_at after q ≡ place_at all q
  leaf_copied copied none turn here q gone =
      elim (leaf_cmp leaf q.leaf) as (λ r. leaf_cmp leaf q.leaf ≡ r → entry_at after q ≡ place_at all q) [
        | Less ↦ λ is. others q (ap is_eq is) ∙ copied q (found_in q.leaf ∙ ap (λ r. cond (is_eq r) (Some shelf) (lookup (is_at (leaf_cmp q.leaf)) new)) is ∙ gone)
        | Equal ↦ λ tie.
            let same = leaf_cmp-IsAntisymmetric leaf q.leaf tie in
            here q tie (none q (ap is_some (found_in q.leaf ∙ ap (λ r. cond (is_eq r) (Some shelf) (lookup (is_at (leaf_cmp q.leaf)) new)) tie)))
            ∙ sym (ap (λ o. key_at (entries_on o) q.key) (ap (λ l. lookup (is_at (leaf_cmp l)) all) (sym same) ∙ turn))
        | Greater ↦ λ is. others q (ap is_eq is) ∙ copied q (found_in q.leaf ∙ ap (λ r. cond (is_eq r) (Some shelf) (lookup (is_at (leaf_cmp q.leaf)) new)) is ∙ gone)
      ] refl

  pub leaf_alone : ((q : Slot) → IsSome (lookup (is_at (leaf_cmp q.leaf)) rest) → entry_at copies q ≡ None) → (q : Slot) → IsSome (lookup (is_at (leaf_cmp q.leaf)) new) → entry_at after q ≡ None
  leaf_alone none q there =
      elim (leaf_cmp leaf q.leaf) as (λ r. leaf_cmp leaf q.leaf ≡ r → entry_at after q ≡ None) [
        | Less ↦ λ is. others q (ap is_eq is) ∙ none q (ap is_some (found_in q.leaf ∙ ap (λ r. cond (is_eq r) (Some shelf) (lookup (is_at (leaf_cmp q.leaf)) new)) is) ∙ there)
        | Equal ↦ λ tie.
            let head = sorted_head leaf_cmp leaf (keys_of new) (subst (λ es. IsStrictlySortedBy leaf_cmp (keys_of es)) step sorted) in
            let gone = ap (λ l. lookup (is_at (leaf_cmp l)) new) (sym (leaf_cmp-IsAntisymmetric leaf q.leaf tie)) ∙ none_above leaf new head in
            let clash : true ≡ false = sym there ∙ ap is_some gone in
            cc
        | Greater ↦ λ is. others q (ap is_eq is) ∙ none q (ap is_some (found_in q.leaf ∙ ap (λ r. cond (is_eq r) (Some shelf) (lookup (is_at (leaf_cmp q.leaf)) new)) is) ∙ there)
      ] refl
