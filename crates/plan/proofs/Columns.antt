-- Lemmas on a row with another value in one column.
use Rattle.std.proofs.Common.{◌≡◌, ◌≢◌, ℕ, zero, suc, List, [], ◌∷◌, Some, refl, ap, slice_set}
use Rattle.std.specs.List.{slice_get}
use Rattle.terms.specs.declared.value.Kind.{Kind}
use Rattle.terms.specs.declared.value.Value.{Value}
use Rattle.terms.specs.Row.{FitsKinds}
use Rattle.terms.specs.Value.{Fits, kind_of}

-- what stands in the column then
pub get_set_same : (row : List Value) (col : ℕ) (old new : Value) → slice_get row col ≡ Some old → slice_get (slice_set row col new) col ≡ Some new
get_set_same [] col old new there = absurd (cc)
get_set_same (value ∷ row) zero old new there = refl
get_set_same (value ∷ row) (suc col) old new there = get_set_same row col old new there

-- the other columns stay
pub get_set_other : (row : List Value) (col place : ℕ) (new : Value) → place ≢ col → slice_get (slice_set row col new) place ≡ slice_get row place
get_set_other [] col place new other = refl
get_set_other (value ∷ row) zero zero new other = absurd (other refl)
get_set_other (value ∷ row) zero (suc place) new other = refl
get_set_other (value ∷ row) (suc col) zero new other = refl
get_set_other (value ∷ row) (suc col) (suc place) new other = get_set_other row col place new (λ same. other (ap suc same))

-- the row fits as before, if the value is of the column's type
pub fits_set : (kinds : List Kind) (row : List Value) (col : ℕ) (kind : Kind) (new : Value) → FitsKinds kinds row → slice_get kinds col ≡ Some kind → kind_of new ≡ kind → Fits new → FitsKinds kinds (slice_set row col new)
fits_set [] [] col kind new fits is of good = tt
fits_set [] (value ∷ row) col kind new fits is of good = absurd fits
fits_set (first ∷ kinds) [] col kind new fits is of good = absurd fits
fits_set (first ∷ kinds) (value ∷ row) zero kind new fits is of good = (cc, good, fits.2)
fits_set (first ∷ kinds) (value ∷ row) (suc col) kind new fits is of good = (fits.0, fits.1, fits_set kinds row col kind new fits.2 is of good)

-- a column of a row that fits has a value of the column's type
pub record FoundAt (row : List Value) (col : ℕ) (kind : Kind) : Type 0 where
  pub value : Value
  pub there : slice_get row col ≡ Some value
  pub of : kind_of value ≡ kind
  pub good : Fits value

pub fits_at : (kinds : List Kind) (row : List Value) (col : ℕ) (kind : Kind) → FitsKinds kinds row → slice_get kinds col ≡ Some kind → FoundAt row col kind
fits_at [] [] col kind fits is = absurd (cc)
fits_at [] (value ∷ row) col kind fits is = absurd fits
fits_at (first ∷ kinds) [] col kind fits is = absurd fits
fits_at (first ∷ kinds) (value ∷ row) zero kind fits is = record { value = value; there = refl; of = cc; good = fits.1 }
fits_at (first ∷ kinds) (value ∷ row) (suc col) kind fits is =
    let found = fits_at kinds row col kind fits.2 is in
    record { value = found.value; there = found.there; of = found.of; good = found.good }
