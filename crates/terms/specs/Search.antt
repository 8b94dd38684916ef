-- The search's own words, which a reader may skip: how the least test value of a column is found.
use Rattle.std.specs.Prelude.{ℕ, suc, if◌then◌else◌, ◌≡◌, ◌==◌, Bool, true, false, ◌&&◌, List, [], ◌∷◌, Option, Some, None}
use Rattle.std.specs.List.{AllByRecursion, fold, slice_get}
use Rattle.std.specs.Ordering.{is_lt}
use Rattle.terms.specs.declared.cond.Cond.{Cond}
use Rattle.terms.specs.declared.value.Kind.{Kind}
use Rattle.terms.specs.declared.value.Value.{Value}
use Rattle.terms.specs.Value.{value_cmp}
use Rattle.terms.specs.TestValues.{test_values, constants, column_holds, with_after, IsLeastTest}

-- whether a value is below the best so far, if there is one
abbrev pub is_below : Value → Option Value → Bool
is_below value None = true
is_below value (Some best) = is_lt (value_cmp value best)

-- the best so far after a value is tried: the least that meets the conditions on a column
unfoldable pub better : List Cond → ℕ → Option Value → Value → Option Value
better conds col best value = if is_below value best && column_holds conds col value then Some value else best

-- the best after the constants that these conditions compare a column with are tried, and their successors
abbrev pub tried_all : List Cond → ℕ → Option Value → List Cond → Option Value
tried_all conds col best [] = best
tried_all conds col best (cond ∷ rest) = tried_all conds col (if cond.col == col then fold (better conds col) best (with_after cond.value) else best) rest

-- no test value of a column meets the conditions on it
abbrev pub HasNoTest : Kind → List Cond → ℕ → Type 0
HasNoTest kind conds col = AllByRecursion (λ test. column_holds conds col test ≡ false) (test_values kind (constants conds col))

-- each value is the least test value of its column that meets the conditions; the first column has this number
abbrev pub AreLeast : List Cond → ℕ → List Kind → List Value → Type 0
AreLeast conds col [] [] = Unit {0}
AreLeast conds col [] (value ∷ values) = ⊥
AreLeast conds col (kind ∷ kinds) [] = ⊥
AreLeast conds col (kind ∷ kinds) (value ∷ values) = IsLeastTest kind conds col value × AreLeast conds (suc col) kinds values

-- in some column no test value meets the conditions
abbrev pub SomeHasNoTest : List Kind → List Cond → Type 0
SomeHasNoTest kinds conds = (col : ℕ) × (kind : Kind) × (slice_get kinds col ≡ Some kind) × HasNoTest kind conds col
