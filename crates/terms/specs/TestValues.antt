-- Test values: for every row there is one of them that conditions cannot tell from it.
use Rattle.std.specs.Prelude.{ℕ, pos, negsuc, ◌+ℤ◌, int_lt, if◌then◌else◌, ◌≡◌, ◌==◌, Bool, true, false, not, ◌||◌, List, [], ◌∷◌, ◌++◌, Option, Some, None, Contains, option_to_list, map}
use Rattle.std.specs.List.{list_all, slice_get, filter, flat_map, AllByRecursion}
use Rattle.std.specs.Option.{option_map}
use Rattle.std.specs.Ordering.{is_gt}
use Rattle.std.specs.declared.cmp.Ordering.{Ordering}
use Rattle.terms.specs.declared.cond.Cond.{Cond}
use Rattle.terms.specs.declared.value.Kind.{Kind}
use Rattle.terms.specs.declared.value.Kind.TheVariants as kinds
use Rattle.terms.specs.declared.value.Value.{Value}
use Rattle.terms.specs.declared.value.Value.TheVariants.{Int, Text}
use Rattle.terms.specs.Value.{Fits, kind_of, value_cmp}
use Rattle.terms.specs.Row.{FitsKinds}
use Rattle.terms.specs.Cond.{IsCondOf, compares, cond_holds}

-- the least value of a type
abbrev pub least : Kind → Value
least kinds.Int = Int (negsuc 9223372036854775807)
least kinds.Text = Text []

-- the least value that fits above another, if there is one: the number plus 1, or the text and a space, since no byte that fits is less
abbrev pub after : Value → Option Value
after (Int n) = if int_lt n (pos 9223372036854775807) then Some (Int (n +ℤ pos 1)) else None
after (Text bytes) = Some (Text (bytes ++ 32 ∷ []))

-- a constant and its successor
abbrev pub with_after : Value → List Value
with_after constant = constant ∷ option_to_list (after constant)

-- The test values of a column, in no order: the least value, the constants and their successors show every truth pattern.
abbrev pub test_values : Kind → List Value → List Value
test_values kind constants = least kind ∷ flat_map with_after constants

-- the constants that conditions compare a column with
abbrev pub constants : List Cond → ℕ → List Value
constants conds col = map (λ cond. cond.value) (filter (λ cond. cond.col == col) conds)

-- whether a value meets the conditions on a column
abbrev pub column_holds : List Cond → ℕ → Value → Bool
column_holds conds col value = list_all (λ cond. not (cond.col == col) || compares cond.cmp value cond.value) conds

-- a value is the least test value that meets the conditions on its column
pub record IsLeastTest (kind : Kind) (conds : List Cond) (col : ℕ) (value : Value) : Type 0 where
  pub is_test : Contains (test_values kind (constants conds col)) value
  pub meets : column_holds conds col value ≡ true
  pub none_below : AllByRecursion (λ test. column_holds conds col test ≡ true → is_gt (value_cmp value test) ≡ false) (test_values kind (constants conds col))

-- in each column a row has the least test value that meets the conditions on the column
abbrev pub HasLeastTests : List Kind → List Cond → List Value → Type 0
HasLeastTests kinds conds row = (col : ℕ) (kind : Kind) (value : Value) → slice_get kinds col ≡ Some kind → slice_get row col ≡ Some value → IsLeastTest kind conds col value

-- in each column a row has a test value
abbrev pub HasTests : List Kind → List Cond → List Value → Type 0
HasTests kinds conds row = (col : ℕ) (kind : Kind) (value : Value) → slice_get kinds col ≡ Some kind → slice_get row col ≡ Some value → Contains (test_values kind (constants conds col)) value

-- how the value in a condition's column compares with its constant
abbrev pub order_in : Cond → List Value → Option Ordering
order_in cond row = option_map (λ value. value_cmp value cond.value) (slice_get row cond.col)

-- a row of test values that fits, and of which a condition holds exactly when it holds of another row
pub record StandsIn (kinds : List Kind) (conds : List Cond) (row tests : List Value) : Type 0 where
  pub fits : FitsKinds kinds tests
  pub are_tests : HasTests kinds conds tests
  pub alike : AllByRecursion (λ cond. order_in cond tests ≡ order_in cond row) conds
  pub holds : AllByRecursion (λ cond. cond_holds cond tests ≡ cond_holds cond row) conds

-- for every row that fits, a row of test values compares alike with every constant
abbrev pub TestRowsSuffice : Type 0
TestRowsSuffice = (kinds : List Kind) (conds : List Cond) (row : List Value) → AllByRecursion (IsCondOf kinds) conds → FitsKinds kinds row → (tests : List Value) × StandsIn kinds conds row tests

-- every test value of a column is of the column's type, and fits
abbrev pub TestValuesFit : Type 0
TestValuesFit = (kinds : List Kind) (conds : List Cond) (col : ℕ) (kind : Kind) (value : Value) → AllByRecursion (IsCondOf kinds) conds → slice_get kinds col ≡ Some kind → Contains (test_values kind (constants conds col)) value → (kind_of value ≡ kind) × Fits value
