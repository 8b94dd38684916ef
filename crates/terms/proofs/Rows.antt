-- Rows: a row of test values that fits and compares with every constant as a given row does.
use Rattle.std.proofs.Common.{◌≡◌, ◌==◌, ◌+◌, ℕ, zero, suc, List, [], ◌∷◌, Some, true, cond, refl, sym, ap, ◌∙◌, subst, arith, Contains, map, inl, inr}
use Rattle.std.specs.List.{AllByRecursion, slice_get, filter}
use Rattle.std.specs.Option.{option_map}
use Rattle.std.specs.declared.cmp.Ordering.{Ordering}
use Rattle.std.proofs.lemmas.Bool.{cond_both, cond-true, cond-false, cases_Bool, both_ways, eqb-true, eq-eqb}
use Rattle.std.proofs.lemmas.Option.{same_Some}
use Rattle.std.proofs.lemmas.List.Elements.{All-from_recursion, recursion_from_All, All-contains, All-contains_itself}
use Rattle.terms.specs.declared.value.Kind.{Kind}
use Rattle.terms.specs.declared.value.Value.{Value}
use Rattle.terms.specs.declared.value.Value.TheVariants.{Int, Text}
use Rattle.terms.specs.declared.cond.Cond.{Cond}
use Rattle.terms.specs.declared.cond.Cmp.{Cmp}
use Rattle.terms.specs.Value.{value_cmp, kind_of}
use Rattle.terms.specs.Row.{FitsKinds}
use Rattle.terms.specs.Cond.{IsCondOf, cond_holds, compares, cmp_holds, holds_of}
use Rattle.terms.specs.TestValues.{test_values, constants, order_in, HasTests, TestRowsSuffice, TestValuesFit}
use Rattle.terms.proofs.Successors.{IsValueOf}
use Rattle.terms.proofs.OneColumn.{IsConstantOf, stand_in, stand_in_is, stand_in_is_test, stand_in_alike, tests_are_values}

-- the constants of a column are of its type
pub constants_are : (kinds : List Kind) (conds : List Cond) (col : ℕ) (kind : Kind) → AllByRecursion (IsCondOf kinds) conds → slice_get kinds col ≡ Some kind → AllByRecursion (IsConstantOf kind) (constants conds col)
constants_are kinds [] col kind fit at = tt
constants_are kinds (c ∷ conds) col kind fit at =
    let rest = constants_are kinds conds col kind fit.1 at in
    let P : List Cond → Type 0 = λ conds. AllByRecursion (IsConstantOf kind) (map (λ cond. cond.value) conds) in
    cond_both (c.col == col) (c ∷ filter (λ cond. cond.col == col) conds) (filter (λ cond. cond.col == col) conds) P (λ same. (own same, rest)) (λ _. rest)
  where
    own : (c.col == col) ≡ true → IsConstantOf kind c.value
    own same =
        let col_is : c.col ≡ col = eqb-true c.col col same in
        let there : slice_get kinds col ≡ Some (kind_of c.value) = subst (λ (at : ℕ). slice_get kinds at ≡ Some (kind_of c.value)) col_is (fit.0).column in
        record { of_kind = same_Some (kind_of c.value) kind (sym there ∙ at); fits = (fit.0).constant }

-- what holds of a column's constants holds of the constant of each condition on it
pub at_cond : (P : Value → Type 0) (conds : List Cond) (col : ℕ) → AllByRecursion P (constants conds col) → AllByRecursion (λ cond. cond.col ≡ col → P cond.value) conds
at_cond P [] col all = tt
at_cond P (c ∷ conds) col all =
    let rest = filter (λ cond. cond.col == col) conds in
    let Q : List Cond → Type 0 = λ conds. AllByRecursion P (map (λ cond. cond.value) conds) in
    let with_own : (c.col == col) ≡ true → Q (c ∷ rest) = λ same. subst Q (cond-true (c.col == col) (c ∷ rest) rest same) all in
    elim (cases_Bool (c.col == col)) as (λ _. AllByRecursion (λ cond. cond.col ≡ col → P cond.value) (c ∷ conds)) [
      | inl same ↦ (λ _. (with_own same).0, at_cond P conds col (with_own same).1)
      | inr other ↦ (λ same. absurd (both_ways (c.col == col) other (eq-eqb c.col col same)), at_cond P conds col (subst Q (cond-false (c.col == col) (c ∷ rest) rest other) all))
    ]

-- the value of a row that fits in a column of a type is of that type
pub value_at : (kinds : List Kind) (row : List Value) (i : ℕ) (kind : Kind) → FitsKinds kinds row → slice_get kinds i ≡ Some kind → (value : Value) × (slice_get row i ≡ Some value) × IsValueOf kind value
value_at [] row i kind fits at = absurd (cc)
value_at (k ∷ kinds) [] i kind fits at = absurd fits
value_at (k ∷ kinds) (value ∷ row) zero kind fits at = (value, refl, record { of_kind = fits.0 ∙ same_Some k kind at; fits = fits.1 })
value_at (k ∷ kinds) (value ∷ row) (suc i) kind fits at = value_at kinds row i kind fits.2 at

-- the row of test values that stands for a row, whose first column has this number
abbrev pub stand_ins : List Cond → ℕ → List Kind → List Value → List Value
stand_ins conds col [] row = []
stand_ins conds col (kind ∷ kinds) [] = []
stand_ins conds col (kind ∷ kinds) (value ∷ row) = stand_in kind (constants conds col) value ∷ stand_ins conds (suc col) kinds row

stand_ins_at : (conds : List Cond) (col : ℕ) (kinds : List Kind) (row : List Value) (i at : ℕ) (kind : Kind) (value : Value) → at ≡ col + i → slice_get kinds i ≡ Some kind → slice_get row i ≡ Some value → slice_get (stand_ins conds col kinds row) i ≡ Some (stand_in kind (constants conds at) value)
stand_ins_at conds col [] row i at kind value is in_kinds in_row = absurd (cc)
stand_ins_at conds col (k ∷ kinds) [] i at kind value is in_kinds in_row = absurd (cc)
stand_ins_at conds col (k ∷ kinds) (v ∷ row) zero at kind value is in_kinds in_row =
    let col_is : col ≡ at = omega arith in
    let k_is : k ≡ kind = same_Some k kind in_kinds in
    let v_is : v ≡ value = same_Some v value in_row in
    cc
stand_ins_at conds col (k ∷ kinds) (v ∷ row) (suc i) at kind value is in_kinds in_row = stand_ins_at conds (suc col) kinds row i at kind value (omega arith) in_kinds in_row

stand_ins_fit : (conds : List Cond) (col : ℕ) (kinds : List Kind) (row : List Value) → FitsKinds kinds row → ((i at : ℕ) (kind : Kind) → at ≡ col + i → slice_get kinds i ≡ Some kind → AllByRecursion (IsConstantOf kind) (constants conds at)) → FitsKinds kinds (stand_ins conds col kinds row)
stand_ins_fit conds col [] [] fits are = tt
stand_ins_fit conds col [] (value ∷ row) fits are = tt
stand_ins_fit conds col (kind ∷ kinds) [] fits are = absurd fits
stand_ins_fit conds col (kind ∷ kinds) (value ∷ row) fits are =
    let is = stand_in_is kind (constants conds col) value (are 0 col kind (omega arith) refl) in
    (is.of_kind, is.fits, stand_ins_fit conds (suc col) kinds row fits.2 (λ i at kind at_is in_kinds. are (suc i) at kind (omega arith) in_kinds))

-- between values of one type a comparison holds by their order
pub compares_is : (cmp : Cmp) (value constant : Value) → kind_of value ≡ kind_of constant → compares cmp value constant ≡ cmp_holds cmp (value_cmp value constant)
compares_is cmp (Int m) (Int n) same = refl
compares_is cmp (Int m) (Text t) same = cc
compares_is cmp (Text s) (Int n) same = cc
compares_is cmp (Text s) (Text t) same = refl

-- the value of a row in a condition's column, and the test value there, compare alike with the condition's constant
abbrev AreAlike : List Value → List Value → Cond → Type 0
AreAlike tests row cond = (order_in cond tests ≡ order_in cond row) × (cond_holds cond tests ≡ cond_holds cond row)

alike_from : (tests row : List Value) (cond : Cond) (test value : Value) → slice_get tests cond.col ≡ Some test → slice_get row cond.col ≡ Some value → kind_of test ≡ kind_of cond.value → kind_of value ≡ kind_of cond.value → value_cmp test cond.value ≡ value_cmp value cond.value → AreAlike tests row cond
alike_from tests row cond test value test_at value_at test_is value_is alike =
    let order : Value → Ordering = λ (value : Value). value_cmp value cond.value in
    let holds = ap (cmp_holds cond.cmp) alike in (
      ap (option_map order) test_at ∙ ap Some alike ∙ sym (ap (option_map order) value_at),
      ap (holds_of cond) test_at ∙ compares_is cond.cmp test cond.value test_is ∙ holds ∙ sym (compares_is cond.cmp value cond.value value_is) ∙ sym (ap (holds_of cond) value_at),
    )

alike_one : (kinds : List Kind) (conds : List Cond) (row : List Value) (cond : Cond) → AllByRecursion (IsCondOf kinds) conds → FitsKinds kinds row → IsCondOf kinds cond → Contains conds cond → AreAlike (stand_ins conds 0 kinds row) row cond
alike_one kinds conds row cond fit fits is among =
    let kind = kind_of cond.value in
    let own = constants conds cond.col in
    let are = constants_are kinds conds cond.col kind fit is.column in
    let found = value_at kinds row cond.col kind fits is.column in
    let test = stand_in kind own found.0 in
    let Alike : Value → Type 0 = λ c. value_cmp test c ≡ value_cmp found.0 c in
    let AlikeThere : Cond → Type 0 = λ c. c.col ≡ cond.col → Alike c.value in
    let alike = All-contains AlikeThere conds cond (All-from_recursion AlikeThere conds (at_cond Alike conds cond.col (stand_in_alike kind own found.0 are found.2))) among in
    let there = stand_ins_at conds 0 kinds row cond.col cond.col kind found.0 (omega arith) is.column found.1 in
    alike_from (stand_ins conds 0 kinds row) row cond test found.0 there found.1 (stand_in_is kind own found.0 are).of_kind (found.2).of_kind (alike refl)

alike_each : (kinds : List Kind) (conds : List Cond) (row : List Value) → AllByRecursion (IsCondOf kinds) conds → FitsKinds kinds row → (some : List Cond) → AllByRecursion (IsCondOf kinds) some → AllByRecursion (Contains conds) some → AllByRecursion (AreAlike (stand_ins conds 0 kinds row) row) some
alike_each kinds conds row fit fits [] is among = tt
alike_each kinds conds row fit fits (cond ∷ some) is among = (alike_one kinds conds row cond fit fits is.0 among.0, alike_each kinds conds row fit fits some is.1 among.1)

tests_are : (kinds : List Kind) (conds : List Cond) (row : List Value) → FitsKinds kinds row → HasTests kinds conds (stand_ins conds 0 kinds row)
tests_are kinds conds row fits col kind test in_kinds in_tests =
    let own = constants conds col in
    let found = value_at kinds row col kind fits in_kinds in
    let there = stand_ins_at conds 0 kinds row col col kind found.0 (omega arith) in_kinds found.1 in
    let same = same_Some (stand_in kind own found.0) test (sym there ∙ in_tests) in
    subst (Contains (test_values kind own)) same (stand_in_is_test kind own found.0)

both_each : {X : Type 0} (P Q : X → Type 0) (xs : List X) → AllByRecursion (λ x. P x × Q x) xs → AllByRecursion P xs × AllByRecursion Q xs
both_each P Q [] all = (tt, tt)
both_each P Q (x ∷ xs) all = let rest = both_each P Q xs all.1 in ((all.0.0, rest.0), (all.0.1, rest.1))

index_is : (i at : ℕ) → at ≡ 0 + i → i ≡ at
index_is i at h = omega arith

-- the row of test values that stands for a row
pub test_row : TestRowsSuffice
test_row kinds conds row fit fits =
    let tests = stand_ins conds 0 kinds row in
    let among = recursion_from_All (Contains conds) conds (All-contains_itself conds) in
    let Ordered : Cond → Type 0 = λ cond. order_in cond tests ≡ order_in cond row in
    let Holds : Cond → Type 0 = λ cond. cond_holds cond tests ≡ cond_holds cond row in
    let alike = both_each Ordered Holds conds (alike_each kinds conds row fit fits conds fit among) in (
      tests,
      record {
        fits = stand_ins_fit conds 0 kinds row fits (λ i at kind at_is in_kinds. constants_are kinds conds at kind fit (subst (λ (k : ℕ). slice_get kinds k ≡ Some kind) (index_is i at at_is) in_kinds));
        are_tests = tests_are kinds conds row fits;
        alike = alike.0;
        holds = alike.1;
      },
    )

-- a test value of a column fits it
pub test_value_fits : TestValuesFit
test_value_fits kinds conds col kind value fit at there =
    let tests = test_values kind (constants conds col) in
    let are = tests_are_values kind (constants conds col) (constants_are kinds conds col kind fit at) in
    let is = All-contains (IsValueOf kind) tests value (All-from_recursion (IsValueOf kind) tests are) there in
    (is.of_kind, is.fits)
