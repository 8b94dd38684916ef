-- What a sort and a removal of repeats leave of some values.
use Rattle.std.proofs.Common.{◌≡◌, ◌↔◌, List, refl, ap, Contains, sym, subst}
use Rattle.std.specs.List.{dedup}
use Rattle.std.specs.List.Sorted.{IsPermutation, IsSorted, IsStrictlySortedBy}
use Rattle.std.specs.Ordering.{eq_by_cmp}
use Rattle.std.specs.Cmp.{eq_by_cmp_equiv}
use Rattle.std.proofs.lemmas.List.Kept.{Contains-dedup, Contains-from_dedup, IsStrictlySortedBy-dedup}
use Rattle.std.proofs.lemmas.List.Sorted.{Contains-permutation, IsPermutation-sym}
use Rattle.std.proofs.lemmas.Map.Views.{tells_apart}
use Rattle.std.proofs.lemmas.Map.Lookups.{CmpEqualImpliesEq, exact_signed, exact_bytes}
use Rattle.terms.specs.declared.value.Value.{Value}
use Rattle.terms.specs.declared.value.Value.TheVariants.{Int, Text}
use Rattle.terms.specs.Value.{value_cmp}
use Rattle.terms.specs.Order.{value_cmp_total}

-- values that compare alike are the same
pub exact_values : CmpEqualImpliesEq value_cmp
exact_values (Int m) (Int n) alike = ap Int (exact_signed m n alike)
exact_values (Int m) (Text t) alike = cc
exact_values (Text s) (Int n) alike = cc
exact_values (Text s) (Text t) alike = ap Text (exact_bytes s t alike)

abbrev pub deduped : List Value → List Value
deduped values = dedup (eq_by_cmp value_cmp) values

pub ascending : (sorted : List Value) → IsSorted value_cmp sorted → IsStrictlySortedBy value_cmp (deduped sorted)
ascending sorted is_sorted = IsStrictlySortedBy-dedup value_cmp_total (λ x y. refl) sorted is_sorted

pub members : (tests unsorted sorted kept : List Value) → unsorted ≡ tests → IsPermutation unsorted sorted → kept ≡ deduped sorted → (value : Value) → Contains kept value ↔ Contains tests value
members tests unsorted sorted kept same moved is value = (
  λ there. subst (λ (all : List Value). Contains all value) same (Contains-permutation sorted unsorted value (IsPermutation-sym unsorted sorted moved) (Contains-from_dedup (eq_by_cmp value_cmp) sorted value (subst (λ (all : List Value). Contains all value) is there))),
  λ there. subst (λ (all : List Value). Contains all value) (sym is) (Contains-dedup (eq_by_cmp_equiv value_cmp_total) (tells_apart exact_values) sorted value (Contains-permutation unsorted sorted value moved (subst (λ (all : List Value). Contains all value) (sym same) there))),
)
