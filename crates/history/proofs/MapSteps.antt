-- What a map has after a change at one key.
use Rattle.std.proofs.Common.{◌≡◌, ◌≢◌, ◌⊎◌, ◌∙◌, Bool, true, false, BTreeMap, Option, ap, cond, inl, inr, refl, sym, subst}
use Rattle.std.specs.BTreeMap.{Updates, get}
use Rattle.std.specs.Cmp.{IsTotalOrder, tied_itself}
use Rattle.std.specs.FinMap.{IsAntisymmetric}
use Rattle.std.specs.Ordering.{is_eq}
use Rattle.std.specs.declared.cmp.Ordering.{Ordering}
use Rattle.desk.proofs.Acknowledged.{is_equal}

module _ {K V : Type 0} (order : K → K → Ordering) (total : IsTotalOrder order) (same : IsAntisymmetric order) where
  -- a key is the changed one, or has what it had
  pub changed : (before after : BTreeMap K V) (key : K) (value : Option V) → Updates order before after key value → (other : K) → ((key ≡ other) × (get order after other ≡ value)) ⊎ ((key ≢ other) × (get order after other ≡ get order before other))
  changed before after key value updates other = by (is_eq (order key other)) refl
    where
      by : (is : Bool) → is_eq (order key other) ≡ is → ((key ≡ other) × (get order after other ≡ value)) ⊎ ((key ≢ other) × (get order after other ≡ get order before other))
      by true e = inl (same key other (is_equal (order key other) e), updates.0 other ∙ ap (λ b. cond b value (get order before other)) e)
      by false e = inr ((λ equal. let tie = ap is_eq (tied_itself total key) in let also = subst (λ k. is_eq (order key k) ≡ false) (sym equal) e in cc), updates.0 other ∙ ap (λ b. cond b value (get order before other)) e)
