-- A list in ascending order is known by its items, so the test values of a column are one list.
use Rattle.std.proofs.Common.{◌≡◌, ◌<◌, ◌↔◌, ℕ, zero, suc, List, [], ◌∷◌, ◌⊎◌, inl, inr, length, get_or, Contains, refl, sym, ap, ap₂, ◌∙◌, subst, arith}
use Rattle.std.specs.Cmp.{IsTotalOrder}
use Rattle.std.specs.Ordering.{ordering_reverse}
use Rattle.std.specs.List.Sorted.{IsStrictlySortedBy}
use Rattle.std.specs.declared.cmp.Ordering.{Ordering}
use Rattle.std.specs.declared.cmp.Ordering.TheVariants.{Less}
use Rattle.std.proofs.lemmas.Cmp.{tied_itself}
use Rattle.std.proofs.lemmas.List.Elements.{All-from_recursion, All-contains, Contains-append_right}
use Rattle.std.proofs.lemmas.Map.Keys.{sorted_head, sorted_tail}
use Rattle.terms.specs.declared.cond.Cond.{Cond}
use Rattle.terms.specs.declared.value.Kind.{Kind}
use Rattle.terms.specs.declared.value.Value.{Value}
use Rattle.terms.specs.Order.{value_cmp_total}
use Rattle.catalog.specs.Cells.{AreTestColumns, HasMoreCells, cell_count, conds_of_split, CellsAreFixed}
use Rattle.catalog.specs.Describes.{HasFewCells}

first_or_later : {K : Type 0} (x : K) (xs : List K) (v : K) (k : ℕ) → k < length (x ∷ xs) → get_or (x ∷ xs) k v ≡ v → (x ≡ v) ⊎ Contains xs v
first_or_later x xs v zero within is = inl is
first_or_later x xs v (suc k) within is = inr (k, omega arith, is)

cons_cases : {K : Type 0} (x : K) (xs : List K) (v : K) → Contains (x ∷ xs) v → (x ≡ v) ⊎ Contains xs v
cons_cases x xs v there = first_or_later x xs v there.0 there.1 there.2

first_is : {K : Type 0} (x : K) (xs : List K) → Contains (x ∷ xs) x
first_is x xs = (0, omega arith, refl)

-- later items are above the first
above : {K : Type 0} (R : K → K → Ordering) (x : K) (xs : List K) (v : K) → IsStrictlySortedBy R (x ∷ xs) → Contains xs v → R x v ≡ Less
above {K} R x xs v sorted there =
    let Above : K → Type 0 = λ y. R x y ≡ Less in
    All-contains Above xs v (All-from_recursion Above xs (sorted_head R x xs sorted)) there

not_both : {K : Type 0} {R : K → K → Ordering} (o : IsTotalOrder R) (x y : K) → R x y ≡ Less → R y x ≡ Less → ⊥
not_both {K} {R} o x y less back = let turned : R x y ≡ ordering_reverse (R y x) = o.antisymm x y in let greater = ap ordering_reverse back in cc

not_itself : {K : Type 0} {R : K → K → Ordering} (o : IsTotalOrder R) (x v : K) → x ≡ v → R x v ≡ Less → ⊥
not_itself {K} {R} o x v same less = let P : K → Type 0 = λ y. R x y ≡ Less in let tied = tied_itself o x in let below = subst P (sym same) less in cc

heads : {K : Type 0} {R : K → K → Ordering} (o : IsTotalOrder R) (x : K) (xs : List K) (y : K) (ys : List K) → IsStrictlySortedBy R (x ∷ xs) → IsStrictlySortedBy R (y ∷ ys) → Contains (y ∷ ys) x → Contains (x ∷ xs) y → x ≡ y
heads {K} {R} o x xs y ys sorted sorted_other there back =
    elim (cons_cases y ys x there) as (λ _. x ≡ y) [
      | inl same ↦ sym same
      | inr later ↦ elim (cons_cases x xs y back) as (λ _. x ≡ y) [
        | inl same ↦ same
        | inr later_back ↦ absurd (not_both o y x (above R y ys x sorted_other later) (above R x xs y sorted later_back))
      ]
    ]

-- an item after the first is after the first of the other list, which is the same
tails : {K : Type 0} {R : K → K → Ordering} (o : IsTotalOrder R) (x : K) (xs : List K) (y : K) (ys : List K) (v : K) → IsStrictlySortedBy R (x ∷ xs) → x ≡ y → Contains xs v → Contains (y ∷ ys) v → Contains ys v
tails {K} {R} o x xs y ys v sorted same there other =
    elim (cons_cases y ys v other) as (λ _. Contains ys v) [
      | inl first ↦ absurd (not_itself o x v (same ∙ first) (above R x xs v sorted there))
      | inr later ↦ later
    ]

behind : {K : Type 0} (x : K) (xs : List K) (v : K) → Contains xs v → Contains (x ∷ xs) v
behind x xs v there = Contains-append_right (x ∷ []) xs v there

pub sorted_is_one : {K : Type 0} {R : K → K → Ordering} (o : IsTotalOrder R) (one other : List K) → IsStrictlySortedBy R one → IsStrictlySortedBy R other → ((v : K) → Contains one v ↔ Contains other v) → one ≡ other
sorted_is_one o [] [] sorted sorted_other same = refl
sorted_is_one o [] (y ∷ ys) sorted sorted_other same = let none = (same y).1 (first_is y ys) in absurd (omega (arith, none.1))
sorted_is_one o (x ∷ xs) [] sorted sorted_other same = let none = (same x).0 (first_is x xs) in absurd (omega (arith, none.1))
sorted_is_one {K} {R} o (x ∷ xs) (y ∷ ys) sorted sorted_other same =
    let first = heads o x xs y ys sorted sorted_other ((same x).0 (first_is x xs)) ((same y).1 (first_is y ys)) in
    let rest = sorted_is_one o xs ys (sorted_tail R x xs sorted) (sorted_tail R y ys sorted_other) (λ v. (
      λ there. tails o x xs y ys v sorted first there ((same v).0 (behind x xs v there)),
      λ there. tails o y ys x xs v sorted_other (sym first) there ((same v).1 (behind y ys v there)),
    )) in
    ap₂ (λ (z : K) (zs : List K). z ∷ zs) first rest

columns_are_one : (conds : List Cond) (col : ℕ) (kinds : List Kind) (one other : List (List Value)) → AreTestColumns conds col kinds one → AreTestColumns conds col kinds other → one ≡ other
columns_are_one conds col [] [] [] columns others = refl
columns_are_one conds col [] [] (values ∷ other) columns others = absurd others
columns_are_one conds col [] (values ∷ one) other columns others = absurd columns
columns_are_one conds col (kind ∷ kinds) [] other columns others = absurd columns
columns_are_one conds col (kind ∷ kinds) (values ∷ one) [] columns others = absurd others
columns_are_one conds col (kind ∷ kinds) (values ∷ one) (same ∷ other) columns others =
    let here = sorted_is_one value_cmp_total values same (columns.0).ascending (others.0).ascending (λ v. (
      λ there. ((others.0).members v).1 (((columns.0).members v).0 there),
      λ there. ((columns.0).members v).1 (((others.0).members v).0 there),
    )) in
    ap₂ (λ (first : List Value) (rest : List (List Value)). first ∷ rest) here (columns_are_one conds (suc col) kinds one other columns.1 others.1)

pub cells_are_fixed : CellsAreFixed
cells_are_fixed kinds way branches one other columns others = columns_are_one (conds_of_split way branches) 0 kinds one other columns others

-- so a row split can't have few cells and more
pub not_few : (kinds : List Kind) (way : List Cond) (branches : List (List Cond)) → HasMoreCells kinds way branches 4096 → HasFewCells kinds way branches → ⊥
not_few kinds way branches (lists, columns, more) few =
    let P : List (List Value) → Type 0 = λ ls. 4096 < cell_count ls in
    let over = subst P (cells_are_fixed kinds way branches lists few.lists columns few.columns) more in omega (arith, over, few.few)
