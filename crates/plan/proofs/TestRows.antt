-- Whether some row meets conditions is decided column by column, by the test values.
use Rattle.std.proofs.Common.{◌≡◌, ℕ, zero, suc, ◌+◌, ◌<◌, ◌==◌, ◌||◌, not, Bool, true, List, [], ◌∷◌, length, Some, Contains, inl, inr, refl, ap, ◌∙◌, subst, arith, slice_index_or}
use Rattle.std.specs.List.{AllByRecursion, list_any, slice_get}
use Rattle.std.proofs.lemmas.Bool.{and_from, and_parts, both_ways, eq-eqb, not_from_true, or_cases, or_left, or_right}
use Rattle.std.proofs.lemmas.List.Elements.{All-contains, All-contains_itself, recursion_from_All}
use Rattle.std.proofs.lemmas.List.Sums.{AllPass-from_list_all}
use Rattle.terms.specs.declared.cond.Cond.{Cond}
use Rattle.terms.specs.declared.value.Kind.{Kind}
use Rattle.terms.specs.declared.value.Value.{Value}
use Rattle.terms.specs.Cond.{IsCondOf, cond_holds, conds_hold, compares, holds_of}
use Rattle.terms.specs.Row.{FitsKinds}
use Rattle.terms.specs.TestValues.{column_holds, constants, test_values}
use Rattle.terms.specs.Value.{Fits, kind_of}
use Rattle.terms.proofs.LeastRow.{column_from_row, conds_hold_alike}
use Rattle.terms.proofs.Rows.{test_row, test_value_fits}
use Rattle.plan.specs.Picked.{can_be_met, columns_met}
use Rattle.plan.proofs.Meeting.{IsMet}

some_passes : (p : Value → Bool) (values : List Value) → list_any p values ≡ true → (value : Value) × Contains values value × (p value ≡ true)
some_passes p [] h = absurd (cc)
some_passes p (first ∷ values) h =
    elim (or_cases (p first) (list_any p values) h) as (λ _. (value : Value) × Contains (first ∷ values) value × (p value ≡ true)) [
      | inl here ↦ (first, (0, omega arith, refl), here)
      | inr there ↦ let found = some_passes p values there in (found.0, (suc found.1.0, omega (arith, found.1.1), found.1.2), found.2)
    ]

passes_some : (p : Value → Bool) (values : List Value) (value : Value) (place : ℕ) → place < length values → slice_index_or values place value ≡ value → p value ≡ true → list_any p values ≡ true
passes_some p [] value place within at h = absurd (omega arith)
passes_some p (first ∷ values) value zero within at h = or_left (p first) (list_any p values) (ap p at ∙ h)
passes_some p (first ∷ values) value (suc place) within at h = or_right (p first) (list_any p values) (passes_some p values value place (omega arith) at h)

-- in each column a test value that meets the conditions on it
abbrev AreChosen : List Cond → ℕ → List Kind → List Value → Type 0
AreChosen conds col [] [] = Unit {0}
AreChosen conds col [] (value ∷ row) = ⊥
AreChosen conds col (kind ∷ kinds) [] = ⊥
AreChosen conds col (kind ∷ kinds) (value ∷ row) = Contains (test_values kind (constants conds col)) value × (column_holds conds col value ≡ true) × AreChosen conds (suc col) kinds row

chosen : (conds : List Cond) (col : ℕ) (kinds : List Kind) → columns_met conds col kinds ≡ true → (row : List Value) × AreChosen conds col kinds row
chosen conds col [] met = ([], tt)
chosen conds col (kind ∷ kinds) met =
    let parts = and_parts (list_any (column_holds conds col) (test_values kind (constants conds col))) (columns_met conds (suc col) kinds) met in
    let first = some_passes (column_holds conds col) (test_values kind (constants conds col)) parts.0 in
    let rest = chosen conds (suc col) kinds parts.1 in
    (first.0 ∷ rest.0, (first.1, first.2, rest.1))

chosen_at : (conds : List Cond) (col : ℕ) (kinds : List Kind) (row : List Value) (i at : ℕ) (kind : Kind) → at ≡ col + i → AreChosen conds col kinds row → slice_get kinds i ≡ Some kind → (value : Value) × (slice_get row i ≡ Some value) × (column_holds conds at value ≡ true)
chosen_at conds col [] row i at kind is are in_kinds = absurd (cc)
chosen_at conds col (k ∷ kinds) [] i at kind is are in_kinds = absurd are
chosen_at conds col (k ∷ kinds) (value ∷ row) zero at kind is are in_kinds =
    let here : col ≡ at = omega arith in
    (value, refl, subst (λ (c : ℕ). column_holds conds c value ≡ true) here are.1)
chosen_at conds col (k ∷ kinds) (value ∷ row) (suc i) at kind is are in_kinds = chosen_at conds (suc col) kinds row i at kind (omega arith) are.2 in_kinds

-- such a row fits
chosen_fit : (conds : List Cond) (col : ℕ) (kinds : List Kind) (row : List Value) → AreChosen conds col kinds row →
    ((i at : ℕ) (kind : Kind) (value : Value) → at ≡ col + i → slice_get kinds i ≡ Some kind → Contains (test_values kind (constants conds at)) value → (kind_of value ≡ kind) × Fits value) → FitsKinds kinds row
chosen_fit conds col [] [] are fit = tt
chosen_fit conds col [] (value ∷ row) are fit = absurd are
chosen_fit conds col (kind ∷ kinds) [] are fit = absurd are
chosen_fit conds col (kind ∷ kinds) (value ∷ row) are fit =
    let here = fit 0 col kind value (omega arith) refl are.0 in
    (here.0, here.1, chosen_fit conds (suc col) kinds row are.2 (λ i at k v is in_kinds there. fit (suc i) at k v (omega arith) in_kinds there))

-- and meets the conditions
own_holds : (c : Cond) (value : Value) → (not (c.col == c.col) || compares c.cmp value c.value) ≡ true → compares c.cmp value c.value ≡ true
own_holds c value meets =
    elim (or_cases (not (c.col == c.col)) (compares c.cmp value c.value) meets) as (λ _. compares c.cmp value c.value ≡ true) [
      | inl other ↦ absurd (both_ways (not (c.col == c.col)) (not_from_true (c.col == c.col) (eq-eqb c.col c.col refl)) other)
      | inr met ↦ met
    ]

chosen_hold : (kinds : List Kind) (conds : List Cond) (row : List Value) → AreChosen conds 0 kinds row → (some : List Cond) → AllByRecursion (IsCondOf kinds) some → AllByRecursion (Contains conds) some → conds_hold some row ≡ true
chosen_hold kinds conds row are [] fit among = refl
chosen_hold kinds conds row are (c ∷ some) fit among =
    let found = chosen_at conds 0 kinds row c.col c.col (kind_of c.value) (omega arith) are (fit.0).column in
    let Meets : Cond → Type 0 = λ other. (not (other.col == c.col) || compares other.cmp found.0 other.value) ≡ true in
    let meets = All-contains Meets conds c (AllPass-from_list_all (λ other. not (other.col == c.col) || compares other.cmp found.0 other.value) conds found.2) among.0 in
    and_from (cond_holds c row) (conds_hold some row) (ap (holds_of c) found.1 ∙ own_holds c found.0 meets) (chosen_hold kinds conds row are some fit.1 among.1)

here_is : (i at : ℕ) → at ≡ 0 + i → i ≡ at
here_is i at is = omega arith

pub met_by_row : (kinds : List Kind) (conds : List Cond) → AllByRecursion (IsCondOf kinds) conds → can_be_met kinds conds ≡ true → IsMet kinds conds
met_by_row kinds conds fit met =
    let row = chosen conds 0 kinds met in
    let value_fits : (i at : ℕ) (kind : Kind) (value : Value) → at ≡ 0 + i → slice_get kinds i ≡ Some kind → Contains (test_values kind (constants conds at)) value → (kind_of value ≡ kind) × Fits value =
    λ i at kind value is in_kinds there. test_value_fits kinds conds at kind value fit (subst (λ (k : ℕ). slice_get kinds k ≡ Some kind) (here_is i at is) in_kinds) there in
    record {
      row = row.0;
      fits = chosen_fit conds 0 kinds row.0 row.1 value_fits;
      holds = chosen_hold kinds conds row.0 row.1 conds fit (recursion_from_All (Contains conds) conds (All-contains_itself conds));
    }

-- where a row meets conditions, a row of test values does, and so a test value in each column
met_tests : (conds : List Cond) (col : ℕ) (kinds : List Kind) (row : List Value) → FitsKinds kinds row →
    ((i at : ℕ) (kind : Kind) (value : Value) → at ≡ col + i → slice_get kinds i ≡ Some kind → slice_get row i ≡ Some value → Contains (test_values kind (constants conds at)) value × (column_holds conds at value ≡ true)) → columns_met conds col kinds ≡ true
met_tests conds col [] row fits are = refl
met_tests conds col (kind ∷ kinds) [] fits are = absurd fits
met_tests conds col (kind ∷ kinds) (value ∷ row) fits are =
    let tests = test_values kind (constants conds col) in
    let here = are 0 col kind value (omega arith) refl refl in
    and_from (list_any (column_holds conds col) tests) (columns_met conds (suc col) kinds) (passes_some (column_holds conds col) tests value here.0.0 here.0.1 here.0.2 here.1)
    (met_tests conds (suc col) kinds row fits.2 (λ i at k v is in_kinds in_row. are (suc i) at k v (omega arith) in_kinds in_row))

pub row_meets : (kinds : List Kind) (conds : List Cond) → AllByRecursion (IsCondOf kinds) conds → IsMet kinds conds → can_be_met kinds conds ≡ true
row_meets kinds conds fit met =
    let stand = test_row kinds conds met.row fit met.fits in
    let tests = stand.0 in
    let holds = conds_hold_alike conds tests met.row (stand.1).holds ∙ met.holds in
    met_tests conds 0 kinds tests (stand.1).fits
    (λ i at kind value is in_kinds in_row.
    let same = here_is i at is in
    let there = subst (λ (k : ℕ). slice_get tests k ≡ Some value) same in_row in
    ((stand.1).are_tests at kind value (subst (λ (k : ℕ). slice_get kinds k ≡ Some kind) same in_kinds) there, column_from_row conds tests at value there holds))
