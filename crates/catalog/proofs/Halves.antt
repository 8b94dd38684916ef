-- A split into what is below a number and what is not is exact.
use Rattle.std.proofs.Common.{◌≡◌, ℕ, zero, suc, ℤ, true, cond, ◌&&◌, List, [], ◌∷◌, Some, refl}
use Rattle.std.specs.List.{slice_get}
use Rattle.std.specs.Ordering.{int_cmp, is_lt, is_ge}
use Rattle.std.specs.declared.cmp.Ordering.TheVariants.{Less, Equal, Greater}
use Rattle.terms.specs.declared.cond.Cmp.TheVariants.{Lt, Ge}
use Rattle.terms.specs.declared.cond.Cond.{Cond}
use Rattle.terms.specs.declared.value.Kind.{Kind}
use Rattle.terms.specs.declared.value.Kind.TheVariants as type
use Rattle.terms.specs.declared.value.Value.{Value}
use Rattle.terms.specs.declared.value.Value.TheVariants.{Int, Text}
use Rattle.terms.specs.Row.{FitsKinds}
use Rattle.catalog.specs.Valid.{AreExact}

-- a row that fits has an integer in a column of integers
int_in : (kinds : List Kind) (row : List Value) (col : ℕ) → FitsKinds kinds row → slice_get kinds col ≡ Some type.Int → (n : ℤ) × (slice_get row col ≡ Some (Int n))
int_in [] row col fits is = cc
int_in (kind ∷ kinds) [] col fits is = absurd fits
int_in (kind ∷ kinds) (Int n ∷ row) zero fits is = (n, refl)
int_in (kind ∷ kinds) (Text bytes ∷ row) zero fits is = let text = fits.0 in cc
int_in (kind ∷ kinds) (value ∷ row) (suc col) fits is = int_in kinds row col fits.2 is

-- below a number and from it on are two branches of which every row meets exactly one
pub halves_exact : (kinds : List Kind) (way : List Cond) (col : ℕ) (n : ℤ) → slice_get kinds col ≡ Some type.Int →
    AreExact kinds way ((record { col = col; cmp = Lt; value = Int n } ∷ []) ∷ (record { col = col; cmp = Ge; value = Int n } ∷ []) ∷ [])
halves_exact kinds way col n is = λ row fits holds.
    let found = int_in kinds row col fits is in
    rw found.1 (
    elim (int_cmp found.0 n) as (λ o. cond (is_lt o && true) (suc (cond (is_ge o && true) 1 0)) (cond (is_ge o && true) 1 0) ≡ 1) [
      | Less ↦ refl
      | Equal ↦ refl
      | Greater ↦ refl
    ])
