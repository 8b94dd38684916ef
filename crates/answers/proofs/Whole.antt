-- Rows that are read whole: what is shown in all columns in order is what it was.
use Rattle.std.proofs.Common.{◌≡◌, ℕ, suc, ◌==◌, ◌||◌, Bool, true, false, List, [], ◌∷◌, length, Option, Some, None, option_map, option_and_then, refl, ap₂, sym, subst, ◌∙◌, arith}
use Rattle.std.specs.List.{cons_option, filter_map, list_all, slice_get}
use Rattle.std.proofs.lemmas.Bool.{eqb-true}
use Rattle.std.proofs.lemmas.Bool.Decides.{nat_tests}
use Rattle.terms.specs.declared.value.Value.{Value}
use Rattle.catalog.specs.Counts.{has}
use Rattle.plan.specs.Fetch.{place_in}
use Rattle.plan.specs.Rows.{seen_part}
use Rattle.plan.specs.Uniform.{AreOnce}
use Rattle.plan.proofs.CarriedConds.{both}
use Rattle.answers.specs.Outcome.{shown}

-- shown in all columns
behind_first : (first : ℕ) (columns : List ℕ) (value : Value) (row : List Value) (col : ℕ) (t : Bool) → (first == col) ≡ t → t ≡ false → seen_part (first ∷ columns) (value ∷ row) col ≡ seen_part columns row col
behind_first first columns value row col true is away = absurd (cc)
behind_first first columns value row col false is away = rw is (found (place_in col columns))
  where
    found : (place : Option ℕ) → option_and_then (slice_get (value ∷ row)) (option_map suc place) ≡ option_and_then (slice_get row) place
    found None = refl
    found (Some place) = refl

all_behind : (first : ℕ) (columns places : List ℕ) (value : Value) (row : List Value) → has places first ≡ false → filter_map (seen_part (first ∷ columns) (value ∷ row)) places ≡ filter_map (seen_part columns row) places
all_behind first columns [] value row away = refl
all_behind first columns (place ∷ places) value row away = at (place == first) refl away (all_behind first columns places value row)
  where
    at : (t : Bool) → (place == first) ≡ t → (t || has places first) ≡ false → (has places first ≡ false → filter_map (seen_part (first ∷ columns) (value ∷ row)) places ≡ filter_map (seen_part columns row) places) →
        filter_map (seen_part (first ∷ columns) (value ∷ row)) (place ∷ places) ≡ filter_map (seen_part columns row) (place ∷ places)
    at true is h more = absurd (cc)
    at false is h more =
        let other : (first == place) ≡ false = grind (arith, nat_tests) in
        ap₂ (λ (one : Option Value) (rest : List Value). cons_option one rest) (behind_first first columns value row place (first == place) refl other) (more h)

own_value : (first : ℕ) (columns : List ℕ) (value : Value) (row : List Value) → seen_part (first ∷ columns) (value ∷ row) first ≡ Some value
own_value first columns value row = let same : (first == first) ≡ true = grind (arith, nat_tests) in rw same refl

row_whole : (columns : List ℕ) (row : List Value) → AreOnce columns → length row ≡ length columns → filter_map (seen_part columns row) columns ≡ row
row_whole [] [] once wide = refl
row_whole [] (value ∷ row) once wide = absurd (omega (arith, wide))
row_whole (first ∷ columns) [] once wide = absurd (omega (arith, wide))
row_whole (first ∷ columns) (value ∷ row) once wide =
    ap₂ (λ (one : Option Value) (rest : List Value). cons_option one rest) (own_value first columns value row)
    (all_behind first columns columns value row once.0 ∙ row_whole columns row once.1 (omega (arith, wide)))

rows_whole : (columns : List ℕ) (rows : List (List Value)) → AreOnce columns → list_all (λ row. length row == length columns) rows ≡ true → shown columns columns rows ≡ rows
rows_whole columns [] once wide = refl
rows_whole columns (row ∷ rows) once wide =
    let each = both (length row == length columns) (list_all (λ row. length row == length columns) rows) wide in
    ap₂ (λ (first : List Value) (rest : List (List Value)). first ∷ rest) (row_whole columns row once (eqb-true (length row) (length columns) each.0)) (rows_whole columns rows once each.1)

pub whole_shown : (places columns : List ℕ) (rows : List (List Value)) → places ≡ columns → AreOnce columns → list_all (λ row. length row == length columns) rows ≡ true → rows ≡ shown places columns rows
whole_shown places columns rows same once wide = subst (λ (p : List ℕ). rows ≡ shown p columns rows) (sym same) (sym (rows_whole columns rows once wide))
