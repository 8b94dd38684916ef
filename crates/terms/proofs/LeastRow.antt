-- Rows of the least test values that meet conditions: such a row fits and meets them all, and where a
-- column has none, no row that fits meets them all.
use Rattle.std.proofs.Common.{◌≡◌, ◌==◌, ◌&&◌, ◌||◌, ◌<◌, ◌+◌, ℕ, zero, suc, List, [], ◌∷◌, ◌++◌, Option, Some, None, Bool, true, false, not, refl, sym, ap, ◌∙◌, subst, inl, inr, Contains, length, length-take, take, get_or, Result, Ok, Err, arith}
use Rattle.std.specs.List.{AllByRecursion, slice_get}
use Rattle.std.specs.Option.{IfSome, IfNone}
use Rattle.std.specs.Result.{IfOk}
use Rattle.std.specs.Bool.{⊤}
use Rattle.std.proofs.lemmas.Bool.{cases_Bool, and_parts, and_from, or_cases, or_left, or_right, both_ways, not_from_false, not_from_true, eqb-true, eq-eqb}
use Rattle.std.proofs.lemmas.Option.{MatchOption-at_some, same_Some}
use Rattle.std.proofs.lemmas.List.{take_more}
use Rattle.std.proofs.lemmas.List.Elements.{All-from_recursion, recursion_from_All, All-contains, All-contains_itself}
use Rattle.std.proofs.lemmas.List.Sums.{AllPass-from_list_all}
use Rattle.terms.specs.declared.cond.Cond.{Cond}
use Rattle.terms.specs.declared.value.Kind.{Kind}
use Rattle.terms.specs.declared.value.Value.{Value}
use Rattle.terms.specs.Value.{kind_of}
use Rattle.terms.specs.Row.{FitsKinds}
use Rattle.terms.specs.Cond.{IsCondOf, cond_holds, conds_hold, compares, holds_of}
use Rattle.terms.specs.TestValues.{least, test_values, constants, column_holds, IsLeastTest, HasLeastTests}
use Rattle.terms.specs.Search.{AreLeast, SomeHasNoTest}
use Rattle.terms.proofs.Successors.{IsValueOf}
use Rattle.terms.proofs.OneColumn.{IsConstantOf, tests_are_values}
use Rattle.terms.proofs.Rows.{constants_are, value_at, test_row}

at_start : (i at : ℕ) → at ≡ 0 + i → i ≡ at
at_start i at h = omega arith

here_is : (at col : ℕ) → at ≡ col + 0 → at ≡ col
here_is at col h = omega arith

pushed : (conds : List Cond) (col : ℕ) (kinds : List Kind) (values : List Value) (kind : Kind) (value : Value) (at : ℕ) → at ≡ col + length kinds → AreLeast conds col kinds values → IsLeastTest kind conds at value → AreLeast conds col (kinds ++ kind ∷ []) (values ++ value ∷ [])
pushed conds col [] [] kind value at is least here = (subst (λ (k : ℕ). IsLeastTest kind conds k value) (here_is at col is) here, tt)
pushed conds col [] (v ∷ values) kind value at is least here = absurd least
pushed conds col (k ∷ kinds) [] kind value at is least here = absurd least
pushed conds col (k ∷ kinds) (v ∷ values) kind value at is least here = (least.0, pushed conds (suc col) kinds values kind value at (omega arith) least.1 here)

-- the step of the loop over the columns
pub one_more : (conds : List Cond) (kinds : List Kind) (values more : List Value) (col : ℕ) (d : Kind) (found : Option Value) (value : Value) → col < length kinds → found ≡ Some value → IfSome found (IsLeastTest (get_or kinds col d) conds col) → more ≡ values ++ value ∷ [] → AreLeast conds 0 (take col kinds) values → AreLeast conds 0 (take (col + 1) kinds) more
one_more conds kinds values more col d found value within is here more_is so_far =
    let least_here = MatchOption-at_some ⊤ (IsLeastTest (get_or kinds col d) conds col) value is here in
    let longer = pushed conds 0 (take col kinds) values (get_or kinds col d) value col (omega (arith, length-take col kinds)) so_far least_here in
    subst (λ (both : List Kind × List Value). AreLeast conds 0 both.0 both.1) (λ i. (sym (take_more kinds col d within) i, sym more_is i)) longer

least_at : (conds : List Cond) (col : ℕ) (kinds : List Kind) (values : List Value) (i at : ℕ) (kind : Kind) → at ≡ col + i → AreLeast conds col kinds values → slice_get kinds i ≡ Some kind → (value : Value) × (slice_get values i ≡ Some value) × IsLeastTest kind conds at value
least_at conds col [] values i at kind is least in_kinds = absurd (cc)
least_at conds col (k ∷ kinds) [] i at kind is least in_kinds = absurd least
least_at conds col (k ∷ kinds) (v ∷ values) zero at kind is least in_kinds =
    (v, refl, subst (λ (both : Kind × ℕ). IsLeastTest both.0 conds both.1 v) (λ i. (same_Some k kind in_kinds i, here i)) least.0)
  where
    here : col ≡ at
    here = omega arith
least_at conds col (k ∷ kinds) (v ∷ values) (suc i) at kind is least in_kinds = least_at conds (suc col) kinds values i at kind (omega arith) least.1 in_kinds

pub has_least_tests : (kinds : List Kind) (conds : List Cond) (values : List Value) → AreLeast conds 0 kinds values → HasLeastTests kinds conds values
has_least_tests kinds conds values least col kind value in_kinds in_values =
    let found = least_at conds 0 kinds values col col kind (omega arith) least in_kinds in
    subst (IsLeastTest kind conds col) (same_Some found.0 value (sym found.1 ∙ in_values)) found.2

least_fit : (conds : List Cond) (col : ℕ) (kinds : List Kind) (values : List Value) → AreLeast conds col kinds values → ((i at : ℕ) (kind : Kind) → at ≡ col + i → slice_get kinds i ≡ Some kind → AllByRecursion (IsConstantOf kind) (constants conds at)) → FitsKinds kinds values
least_fit conds col [] [] least are = tt
least_fit conds col [] (value ∷ values) least are = absurd least
least_fit conds col (kind ∷ kinds) [] least are = absurd least
least_fit conds col (kind ∷ kinds) (value ∷ values) least are =
    let tests = tests_are_values kind (constants conds col) (are 0 col kind (omega arith) refl) in
    let is = All-contains (IsValueOf kind) (test_values kind (constants conds col)) value (All-from_recursion (IsValueOf kind) (test_values kind (constants conds col)) tests) (least.0).is_test in
    (is.of_kind, is.fits, least_fit conds (suc col) kinds values least.1 (λ i at kind at_is in_kinds. are (suc i) at kind (omega arith) in_kinds))

-- such a row fits
pub fits_kinds : (kinds : List Kind) (conds : List Cond) (values : List Value) → AllByRecursion (IsCondOf kinds) conds → AreLeast conds 0 kinds values → FitsKinds kinds values
fits_kinds kinds conds values fit least =
    least_fit conds 0 kinds values least (λ i at kind at_is in_kinds. constants_are kinds conds at kind fit (subst (λ (k : ℕ). slice_get kinds k ≡ Some kind) (at_start i at at_is) in_kinds))

-- what `column_holds` tests of one condition
abbrev meets_one : ℕ → Value → Cond → Bool
meets_one col value cond = not (cond.col == col) || compares cond.cmp value cond.value

own_holds : (c : Cond) (value : Value) → meets_one c.col value c ≡ true → compares c.cmp value c.value ≡ true
own_holds c value meets =
    elim (or_cases (not (c.col == c.col)) (compares c.cmp value c.value) meets) as (λ _. compares c.cmp value c.value ≡ true) [
      | inl other ↦ absurd (both_ways (not (c.col == c.col)) (not_from_true (c.col == c.col) (eq-eqb c.col c.col refl)) other)
      | inr met ↦ met
    ]

each_holds : (kinds : List Kind) (conds : List Cond) (values : List Value) → AreLeast conds 0 kinds values → (some : List Cond) → AllByRecursion (IsCondOf kinds) some → AllByRecursion (Contains conds) some → conds_hold some values ≡ true
each_holds kinds conds values least [] fit among = refl
each_holds kinds conds values least (cond ∷ some) fit among =
    let found = least_at conds 0 kinds values cond.col cond.col (kind_of cond.value) (omega arith) least (fit.0).column in
    let Meets : Cond → Type 0 = λ c. meets_one cond.col found.0 c ≡ true in
    let meets = All-contains Meets conds cond (AllPass-from_list_all (meets_one cond.col found.0) conds (found.2).meets) among.0 in
    and_from (cond_holds cond values) (conds_hold some values) (ap (holds_of cond) found.1 ∙ own_holds cond found.0 meets) (each_holds kinds conds values least some fit.1 among.1)

-- and meets the conditions
pub all_hold : (kinds : List Kind) (conds : List Cond) (values : List Value) → AllByRecursion (IsCondOf kinds) conds → AreLeast conds 0 kinds values → conds_hold conds values ≡ true
all_hold kinds conds values fit least = each_holds kinds conds values least conds fit (recursion_from_All (Contains conds) conds (All-contains_itself conds))

-- a value of a row that meets the conditions meets those on its column
pub column_from_row : (conds : List Cond) (row : List Value) (col : ℕ) (value : Value) → slice_get row col ≡ Some value → conds_hold conds row ≡ true → column_holds conds col value ≡ true
column_from_row [] row col value at holds = refl
column_from_row (c ∷ conds) row col value at holds =
    let parts = and_parts (cond_holds c row) (conds_hold conds row) holds in
    and_from (meets_one col value c) (column_holds conds col value) (own parts.0) (column_from_row conds row col value at parts.1)
  where
    own : cond_holds c row ≡ true → meets_one col value c ≡ true
    own met =
        elim (cases_Bool (c.col == col)) as (λ _. meets_one col value c ≡ true) [
          | inl same ↦
              let there : slice_get row c.col ≡ Some value = subst (λ (k : ℕ). slice_get row k ≡ Some value) (sym (eqb-true c.col col same)) at in
              or_right (not (c.col == col)) (compares c.cmp value c.value) (sym (ap (holds_of c) there) ∙ met)
          | inr other ↦ or_left (not (c.col == col)) (compares c.cmp value c.value) (not_from_false (c.col == col) other)
        ]

-- where each condition holds alike of two rows, so do all together
pub conds_hold_alike : (conds : List Cond) (tests row : List Value) → AllByRecursion (λ cond. cond_holds cond tests ≡ cond_holds cond row) conds → conds_hold conds tests ≡ conds_hold conds row
conds_hold_alike [] tests row alike = refl
conds_hold_alike (c ∷ conds) tests row alike = ap (λ (b : Bool). b && conds_hold conds tests) alike.0 ∙ ap (λ (b : Bool). cond_holds c row && b) (conds_hold_alike conds tests row alike.1)

-- where no test value of some column meets the conditions, no row that fits meets them
pub none_holds : (kinds : List Kind) (conds : List Cond) → AllByRecursion (IsCondOf kinds) conds → SomeHasNoTest kinds conds → (row : List Value) → FitsKinds kinds row → conds_hold conds row ≡ true → ⊥
none_holds kinds conds fit none row fits holds =
    let col = none.0 in
    let kind = none.1 in
    let stand = test_row kinds conds row fit fits in
    let test = value_at kinds stand.0 col kind (stand.1).fits none.2 in
    let is_test = (stand.1).are_tests col kind test.0 none.2 test.1 in
    let NoTest : Value → Type 0 = λ value. column_holds conds col value ≡ false in
    let tests = test_values kind (constants conds col) in
    both_ways (column_holds conds col test.0)
    (All-contains NoTest tests test.0 (All-from_recursion NoTest tests none.3) is_test)
    (column_from_row conds stand.0 col test.0 test.1 (conds_hold_alike conds stand.0 row (stand.1).holds ∙ holds))

-- from what a clause says of the row that was found, or of there being none
pub of_found : {X E : Type 0} (result : Result (Option X) E) (P Q : X → Type 0) → ((x : X) → P x → Q x) → IfOk result (λ found. IfSome found P) → IfOk result (λ found. IfSome found Q)
of_found (Ok None) P Q then given = tt
of_found (Ok (Some x)) P Q then given = then x given
of_found (Err e) P Q then given = tt

pub of_none : {X E : Type 0} (result : Result (Option X) E) (P Q : Type 0) → (P → Q) → IfOk result (λ found. IfNone found P) → IfOk result (λ found. IfNone found Q)
of_none (Ok None) P Q then given = then given
of_none (Ok (Some x)) P Q then given = tt
of_none (Err e) P Q then given = tt
