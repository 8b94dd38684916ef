-- The columns of a relation, and rows that have the same in them.
use Rattle.std.proofs.Common.{◌≡◌, ℕ, suc, zero, ◌+◌, ◌<◌, ◌==◌, true, false, ◌||◌, List, [], ◌∷◌, length, Option, Some, None, is_some, subst, refl, ap, ◌∙◌, arith}
use Rattle.std.specs.List.{slice_get, cons_option}
use Rattle.std.proofs.Math.Bool.{or-true}
use Rattle.std.proofs.lemmas.Bool.{eq-eqb, eqb-true}
use Rattle.terms.specs.declared.value.Kind.{Kind}
use Rattle.terms.specs.declared.value.Value.{Value}
use Rattle.terms.specs.Row.{FitsKinds}
use Rattle.meaning.specs.Listed.{listed}
use Rattle.catalog.specs.Counts.{has}
use Rattle.catalog.specs.Path.{places_from, columns_beside_key}

-- a place among those of columns, that many after the first
has-places_from : (place col i : ℕ) (kinds : List Kind) → i < length kinds → col ≡ place + i → has (places_from place kinds) col ≡ true
has-places_from place col i [] within is = absurd (omega arith)
has-places_from place col zero (kind ∷ kinds) within is =
    let here : (place == col) ≡ true = eq-eqb place col (omega arith) in
    ap (λ b. b || has (places_from (suc place) kinds) col) here
has-places_from place col (suc i) (kind ∷ kinds) within is =
    let there = has-places_from (suc place) col i kinds (omega arith) (omega arith) in
    ap (λ b. (place == col) || b) there ∙ or-true (place == col)

-- each column after the first is beside the key
pub has-beside_key : (kinds : List Kind) (i : ℕ) → suc i < length kinds → has (columns_beside_key kinds) (suc i) ≡ true
has-beside_key [] i within = absurd (omega arith)
has-beside_key (key ∷ kinds) i within = has-places_from 1 (suc i) i kinds (omega arith) (omega arith)

-- a row that fits has a value exactly in the columns that there are
pub filled : (kinds : List Kind) (row : List Value) (col : ℕ) → FitsKinds kinds row → is_some (slice_get row col) ≡ is_some (slice_get kinds col)
filled [] [] col fits = refl
filled [] (value ∷ values) col fits = absurd fits
filled (kind ∷ kinds) [] col fits = absurd fits
filled (kind ∷ kinds) (value ∷ values) zero fits = refl
filled (kind ∷ kinds) (value ∷ values) (suc col) fits = filled kinds values col fits.2

-- a row is what it has in its columns
pub same_values : {A : Type 0} (one other : List A) → ((col : ℕ) → slice_get one col ≡ slice_get other col) → one ≡ other
same_values [] [] same = refl
same_values [] (x ∷ xs) same = let none = same 0 in cc
same_values (x ∷ xs) [] same = let none = same 0 in cc
same_values (x ∷ xs) (y ∷ ys) same =
    let first = same 0 in
    let rest = same_values xs ys (λ col. same (suc col)) in cc

-- a value in front of others, or none
parted : {A : Type 0} (a b : Option A) (xs ys : List A) → is_some a ≡ is_some b → cons_option a xs ≡ cons_option b ys → (a ≡ b) × (xs ≡ ys)
parted None None xs ys alike same = (refl, same)
parted None (Some y) xs ys alike same = cc
parted (Some x) None xs ys alike same = cc
parted (Some x) (Some y) xs ys alike same = (cc, cc)

-- rows that are alike in which columns they have, and have the same in the listed ones, have the same in each of these
pub listed_agree : (columns : List ℕ) (one other : List Value) → ((col : ℕ) → is_some (slice_get one col) ≡ is_some (slice_get other col)) → listed columns one ≡ listed columns other → (col : ℕ) → has columns col ≡ true → slice_get one col ≡ slice_get other col
listed_agree [] one other alike same col there = cc
listed_agree (first ∷ columns) one other alike same col there =
    let parts = parted (slice_get one first) (slice_get other first) (listed columns one) (listed columns other) (alike first) same in
    elim (first == col) as (λ b. (first == col) ≡ b → (b || has columns col) ≡ true → slice_get one col ≡ slice_get other col) [
      | true ↦ λ is later. let P : ℕ → Type 0 = λ c. slice_get one c ≡ slice_get other c in subst P (eqb-true first col is) parts.0
      | false ↦ λ is later. listed_agree columns one other alike parts.1 col later
    ] refl there
