-- Rows in the order of their numbers.
use Rattle.std.specs.Prelude.{◌≡◌, ◌⊎◌, ◌<ℤ◌, ℕ, ◌-◌, Bool, true, false, List, [], length, ◌<◌, ◌==◌, MatchBool, slice_index_or}
use Rattle.std.specs.List.{AllByRecursion}
use Rattle.sqlite.specs.Edit.{id_in}
use Rattle.sqlite.specs.Order.{Row}
use Rattle.sqlite.specs.Tree.{rowid}
use Rattle.sqlite.specs.View.{is_int}
use Rattle.sqlite.specs.declared.types.Value.{Value}
use Rattle.sqlite.specs.declared.types.Value.TheVariants.{Real}

abbrev pub is_real : Value → Bool
is_real (Real x) = true
is_real _ = false

-- no cell is a real number
abbrev pub IsPlainRow : Row → Type 0
IsPlainRow row = AllByRecursion (λ value. is_real value ≡ false) row

-- two rows have numbers, and the second a greater one, or they are the same
pub record Follows (before row : Row) : Type 0 where
  pub was : is_int (rowid before) ≡ true
  pub is : is_int (rowid row) ≡ true
  pub rises : (id_in (rowid before) <ℤ id_in (rowid row)) ⊎ ((before ≡ row) × IsPlainRow before)

abbrev pub row_at : List Row → ℕ → Row
row_at rows at = slice_index_or rows at []

-- a row has a number, and follows the row before it, if there is one
abbrev pub IsNumberedAt : List Row → ℕ → Type 0
IsNumberedAt rows at = MatchBool (at == 0) (is_int (rowid (row_at rows at)) ≡ true) (Follows (row_at rows (at - 1)) (row_at rows at))

-- so has each
abbrev pub AreNumbered : List Row → Type 0
AreNumbered rows = (at : ℕ) → at < length rows → IsNumberedAt rows at
