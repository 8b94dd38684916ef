-- A map from the keys of ascending rows to their places.
use Rattle.std.proofs.Common.{◌≡◌, ℕ, zero, suc, ◌<◌, ℤ, ◌<ℤ◌, Bool, true, false, cond, List, [], ◌∷◌, length, get_or, take, Option, Some, option_and_then, refl, ap, sym, ◌∙◌, arith}
use Rattle.std.specs.List.{slice_get}
use Rattle.std.specs.Ordering.{int_eq}
use Rattle.std.proofs.lemmas.Int.{ints}
use Rattle.terms.specs.declared.value.Value.{Value}
use Rattle.terms.specs.Row.{key_of}
use Rattle.meaning.specs.Relation.{Ascends}
use Rattle.meaning.proofs.Places.{each_at}
use Rattle.catalog.specs.Keyed.{row_at}

apart : (a b key : ℤ) → a <ℤ b → int_eq a key ≡ true → int_eq b key ≡ false
apart a b key below same = grind (arith, ints)

-- of two tests that are not both met, either may come first
either_first : {A : Type 0} (a b : Bool) (one other rest : A) → (a ≡ true → b ≡ false) → cond a one (cond b other rest) ≡ cond b other (cond a one rest)
either_first true true one other rest alone = absurd (let h : true ≡ false = alone refl in cc)
either_first true false one other rest alone = refl
either_first false b one other rest alone = refl

-- the first rows have one row more
pub one_more_at : (key : ℤ) (rows : List (List Value)) (i : ℕ) (d : List Value) → Ascends rows → i < length rows → row_at key (take (suc i) rows) ≡ cond (int_eq (key_of (get_or rows i d)) key) (Some (get_or rows i d)) (row_at key (take i rows))
one_more_at key [] i d order within = absurd (omega arith)
one_more_at key (row ∷ rows) zero d order within = refl
one_more_at key (row ∷ rows) (suc i) d order within =
    let at = get_or rows i d in
    let below : key_of row <ℤ key_of at = each_at (λ later. key_of row <ℤ key_of later) rows i d order.0 (omega arith) in
    ap (λ (o : Option (List Value)). cond (int_eq (key_of row) key) (Some row) o) (one_more_at key rows i d order.1 (omega arith))
    ∙ either_first (int_eq (key_of row) key) (int_eq (key_of at) key) (Some row) (Some at) (row_at key (take i rows)) (apart (key_of row) (key_of at) key below)

found_there : (rows : List (List Value)) (i : ℕ) (d : List Value) → i < length rows → slice_get rows i ≡ Some (get_or rows i d)
found_there [] i d within = absurd (omega arith)
found_there (row ∷ rows) zero d within = refl
found_there (row ∷ rows) (suc i) d within = found_there rows i d (omega arith)

-- a map that has the places of the first rows gets that of the next one
pub placed_more : (rows : List (List Value)) (i next : ℕ) (row : List Value) (before after : ℤ → Option ℕ) → next ≡ suc i → Ascends rows → i < length rows → row ≡ get_or rows i row → ((key : ℤ) → option_and_then (slice_get rows) (before key) ≡ row_at key (take i rows)) →
    ((key : ℤ) → after key ≡ cond (int_eq (key_of row) key) (Some i) (before key)) → (key : ℤ) → option_and_then (slice_get rows) (after key) ≡ row_at key (take next rows)
placed_more rows i next row before after next_is order within is placed step key =
    ap (option_and_then (slice_get rows)) (step key) ∙ at (int_eq (key_of row) key) ∙ ap (λ (r : List Value). cond (int_eq (key_of r) key) (Some r) (row_at key (take i rows))) is ∙ sym (one_more_at key rows i row order within)
    ∙ ap (λ (n : ℕ). row_at key (take n rows)) (sym next_is)
  where
    at : (t : Bool) → option_and_then (slice_get rows) (cond t (Some i) (before key)) ≡ cond t (Some row) (row_at key (take i rows))
    at true = found_there rows i row within ∙ ap (λ (r : List Value). Some r) (sym is)
    at false = placed key
