-- The plan of a join has at each key what is to be found there.
use Rattle.std.proofs.Common.{◌≡◌, ℕ, suc, ℤ, Bool, true, false, cond, ◌&&◌, List, [], ◌∷◌, ◌++◌, length, Option, Some, None, option_map, option_and_then, refl, ap, sym, ◌∙◌}
use Rattle.std.specs.List.{slice_get}
use Rattle.terms.specs.declared.value.Kind.{Kind}
use Rattle.terms.specs.declared.value.Value.{Value}
use Rattle.terms.specs.declared.value.Value.TheVariants.{Int, Text}
use Rattle.terms.specs.Row.{FitsKinds, key_of}
use Rattle.meaning.specs.Selected.{paired, partner}
use Rattle.plan.specs.Rows.{Seen, at_value, merged, shifted}
use Rattle.plan.proofs.AtKey.{KeepsKeys}

pub fits_long : (types : List Kind) (row : List Value) → FitsKinds types row → length row ≡ length types
fits_long [] [] fits = refl
fits_long [] (value ∷ row) fits = absurd fits
fits_long (kind ∷ types) [] fits = absurd fits
fits_long (kind ∷ types) (value ∷ row) fits = ap suc (fits_long types row fits.2)

pub pair_keeps : (col : ℕ) (others : List (List Value)) → KeepsKeys (paired col others)
pair_keeps col others [] made is = absurd (cc)
pair_keeps col others (value ∷ row) made is = at (partner others (slice_get (value ∷ row) col)) is
  where
    key_front : (value : Value) (row other : List Value) → key_of (value ∷ (row ++ other)) ≡ key_of (value ∷ row)
    key_front (Int n) row other = refl
    key_front (Text bytes) row other = refl

    at : (found : Option (List Value)) → option_map (λ other. (value ∷ row) ++ other) found ≡ Some made → key_of made ≡ key_of (value ∷ row)
    at None h = absurd (cc)
    at (Some other) h = let same : (value ∷ row) ++ other ≡ made = cc in ap key_of (sym same) ∙ key_front value row other

-- a row and its partner, each where it is there
pub lookup_one : (a b : Bool) (width col : ℕ) (one two : Seen) (right : ℤ → Option Seen) (n : ℤ) → one col ≡ Some (Int n) → right n ≡ cond b (Some two) None →
    option_and_then (λ seen. option_map (λ found. merged seen (shifted width found)) (at_value right (seen col))) (cond a (Some one) None) ≡ cond (a && b) (Some (merged one (shifted width two))) None
lookup_one true true width col one two right n at is = ap (λ (o : Option Value). option_map (λ found. merged one (shifted width found)) (at_value right o)) at ∙ ap (option_map (λ found. merged one (shifted width found))) is
lookup_one true false width col one two right n at is = ap (λ (o : Option Value). option_map (λ found. merged one (shifted width found)) (at_value right o)) at ∙ ap (option_map (λ found. merged one (shifted width found))) is
lookup_one false b width col one two right n at is = refl

pub lookup_none : (a : Bool) (width col : ℕ) (one : Seen) (right : ℤ → Option Seen) (n : ℤ) → one col ≡ Some (Int n) → right n ≡ None →
    option_and_then (λ seen. option_map (λ found. merged seen (shifted width found)) (at_value right (seen col))) (cond a (Some one) None) ≡ None
lookup_none true width col one right n at is = ap (λ (o : Option Value). option_map (λ found. merged one (shifted width found)) (at_value right o)) at ∙ ap (option_map (λ found. merged one (shifted width found))) is
lookup_none false width col one right n at is = refl
