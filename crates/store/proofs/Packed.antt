-- What packed shelves have, leaf by leaf.
use Rattle.std.proofs.Common.{◌≡◌, ℤ, List, ◌∷◌, false, cond, Option, Some, None, unwrap_or, refl, ap, sym, ◌∙◌}
use Rattle.std.specs.BTreeMap.{BTreeMap, is_at}
use Rattle.std.specs.Cmp.{eq_by_cmp_equiv}
use Rattle.std.specs.List.Sorted.{IsStrictlySortedBy}
use Rattle.std.specs.Map.{lookup, keys_of}
use Rattle.std.specs.Ordering.{is_eq}
use Rattle.std.specs.declared.cmp.Ordering.TheVariants.{Less, Equal, Greater}
use Rattle.terms.specs.declared.leaf.Leaf.{Leaf}
use Rattle.terms.specs.declared.value.Value.{Value}
use Rattle.terms.specs.Leaf.{leaf_cmp}
use Rattle.store.specs.declared.slot.Slot.{Slot}
use Rattle.store.specs.Orders.{leaf_cmp_total, leaf_cmp-IsAntisymmetric}
use Rattle.store.specs.Content.{AreKeyed, put_at}
use Rattle.store.specs.Shelves.{Shelves, entries_on, key_at, place_at, all_on}
use Rattle.store.proofs.Flat.{all_parts, put_place}
use Rattle.store.proofs.Keyed.{view, keyed_same}

-- one leaf more is packed, and the others stay as they were
pub leaf_packed : (all rest new packed after : Shelves) (leaf : Leaf) (shelf made : BTreeMap ℤ (Option (List Value))) → rest ≡ (leaf, shelf) ∷ new → lookup (is_at (leaf_cmp leaf)) all ≡ Some shelf → ((key : ℤ) → key_at made.entries key ≡ key_at shelf.entries key) →
    ((l : Leaf) → lookup (is_at (leaf_cmp l)) after ≡ cond (is_at (leaf_cmp leaf) l) (Some made) (lookup (is_at (leaf_cmp l)) packed)) → ((q : Slot) → lookup (is_at (leaf_cmp q.leaf)) rest ≡ None → place_at packed q ≡ place_at all q) → (q : Slot) → lookup (is_at (leaf_cmp q.leaf)) new ≡ None → place_at after q ≡ place_at all q
leaf_packed all rest new packed after leaf shelf made step turn same updates so_far q gone =
    elim (leaf_cmp leaf q.leaf) as (λ r. leaf_cmp leaf q.leaf ≡ r → place_at after q ≡ place_at all q) [
      | Less ↦ λ is. other (ap is_eq is)
      | Equal ↦ λ tie.
          on_key (updates q.leaf ∙ ap (λ r. cond (is_eq r) (Some made) (lookup (is_at (leaf_cmp q.leaf)) packed)) tie)
          ∙ same q.key
          ∙ sym (on_key (ap (λ l. lookup (is_at (leaf_cmp l)) all) (sym (leaf_cmp-IsAntisymmetric leaf q.leaf tie)) ∙ turn))
      | Greater ↦ λ is. other (ap is_eq is)
    ] refl
  where
    on_key : {one two : Option (BTreeMap ℤ (Option (List Value)))} → one ≡ two → key_at (entries_on one) q.key ≡ key_at (entries_on two) q.key
    on_key is = ap (λ o. key_at (entries_on o) q.key) is

    other : is_at (leaf_cmp leaf) q.leaf ≡ false → place_at after q ≡ place_at all q
    other apart =
        on_key (updates q.leaf ∙ ap (λ b. cond b (Some made) (lookup (is_at (leaf_cmp q.leaf)) packed)) apart)
        ∙ so_far q (ap (lookup (is_at (leaf_cmp q.leaf))) step ∙ ap (λ b. cond b (Some shelf) (lookup (is_at (leaf_cmp q.leaf)) new)) ((eq_by_cmp_equiv leaf_cmp_total).symm q.leaf leaf ∙ apart) ∙ gone)

-- shelves with the same entries
module _ (old new : Shelves) (sorted : IsStrictlySortedBy leaf_cmp (keys_of old)) (packed : IsStrictlySortedBy leaf_cmp (keys_of new)) (same : (q : Slot) → place_at new q ≡ place_at old q) where
  -- have the same parts
  pub put_packed : (q : Slot) → put_at (view (all_on new)) q ≡ put_at (view (all_on old)) q
  put_packed q = put_place new packed q ∙ ap (λ o. unwrap_or o None) (same q) ∙ sym (put_place old sorted q)

  -- have parts with the same keys
  pub keyed_packed : AreKeyed (view (all_on old)) → AreKeyed (view (all_on new))
  keyed_packed keyed =
      keyed_same (all_on old) (all_on new) keyed (λ q. all_parts new packed q ∙ ap (λ o. unwrap_or o None) (same q) ∙ sym (all_parts old sorted q))
