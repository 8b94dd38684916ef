-- What lists of rows with ascending keys have at a key, after a map that keeps the keys.
use Rattle.std.proofs.Common.{◌≡◌, ℕ, ℤ, ◌<ℤ◌, Bool, true, false, cond, ◌&&◌, List, [], ◌∷◌, map, filter, Option, Some, None, option_and_then, refl, ap, sym, ◌∙◌, subst, arith}
use Rattle.std.specs.List.{AllByRecursion, cons_option, filter_map}
use Rattle.std.specs.Ordering.{int_eq}
use Rattle.std.proofs.lemmas.Int.{ints}
use Rattle.terms.specs.declared.value.Value.{Value}
use Rattle.terms.specs.declared.value.Value.TheVariants.{Int, Text}
use Rattle.terms.specs.Row.{key_of}
use Rattle.meaning.specs.Relation.{Ascends}
use Rattle.meaning.specs.Listed.{listed}
use Rattle.catalog.specs.Keyed.{row_at}

apart : (a b key : ℤ) → a <ℤ b → int_eq a key ≡ true → int_eq b key ≡ false
apart a b key below same = grind (arith, ints)

-- after a row of a key no row has it
pub none_after : (key : ℤ) (row : List Value) (rows : List (List Value)) → int_eq (key_of row) key ≡ true → AllByRecursion (λ later. key_of row <ℤ key_of later) rows → row_at key rows ≡ None
none_after key row [] same later = refl
none_after key row (other ∷ rows) same later = rw (apart (key_of row) (key_of other) key later.0 same) (none_after key row rows same later.1)

-- a map of rows that keeps the keys of those that it keeps
abbrev pub KeepsKeys : (List Value → Option (List Value)) → Type 0
KeepsKeys f = (row made : List Value) → f row ≡ Some made → key_of made ≡ key_of row

-- one row of such a map
pub one_at : (f : List Value → Option (List Value)) (key : ℤ) (row : List Value) (rest : List (List Value)) (after : Option (List Value)) (made : Option (List Value)) (t : Bool) → f row ≡ made → int_eq (key_of row) key ≡ t →
    ((other : List Value) → made ≡ Some other → key_of other ≡ key_of row) → row_at key rest ≡ option_and_then f after → (t ≡ true → after ≡ None) →
    row_at key (cons_option made rest) ≡ option_and_then f (cond t (Some row) after)
one_at f key row rest after None true is same keeps more none = more ∙ ap (option_and_then f) (none refl) ∙ sym is
one_at f key row rest after None false is same keeps more none = more
one_at f key row rest after (Some made) true is same keeps more none =
    let here : int_eq (key_of made) key ≡ true = ap (λ k. int_eq k key) (keeps made refl) ∙ same in
    rw here (sym is)
one_at f key row rest after (Some made) false is same keeps more none =
    let other : int_eq (key_of made) key ≡ false = ap (λ k. int_eq k key) (keeps made refl) ∙ same in
    rw other more

-- what the mapped rows have at a key is the map of what the rows have there
pub at_mapped : (f : List Value → Option (List Value)) (key : ℤ) (rows : List (List Value)) → KeepsKeys f → Ascends rows → row_at key (filter_map f rows) ≡ option_and_then f (row_at key rows)
at_mapped f key [] keeps order = refl
at_mapped f key (row ∷ rows) keeps order =
    one_at f key row (filter_map f rows) (row_at key rows) (f row) (int_eq (key_of row) key) refl refl (keeps row) (at_mapped f key rows keeps order.1) (λ same. none_after key row rows same order.0)

-- and it ascends
after_mapped : (f : List Value → Option (List Value)) (key : ℤ) (rows : List (List Value)) → KeepsKeys f → AllByRecursion (λ later. key <ℤ key_of later) rows → AllByRecursion (λ later. key <ℤ key_of later) (filter_map f rows)
after_mapped f key [] keeps later = tt
after_mapped f key (row ∷ rows) keeps later = step (f row) refl (after_mapped f key rows keeps later.1)
  where
    step : (made : Option (List Value)) → f row ≡ made → AllByRecursion (λ later. key <ℤ key_of later) (filter_map f rows) → AllByRecursion (λ later. key <ℤ key_of later) (cons_option made (filter_map f rows))
    step None is more = more
    step (Some made) is more = (subst (λ k. key <ℤ k) (sym (keeps row made is)) later.0, more)

pub ascends_mapped : (f : List Value → Option (List Value)) (rows : List (List Value)) → KeepsKeys f → Ascends rows → Ascends (filter_map f rows)
ascends_mapped f [] keeps order = tt
ascends_mapped f (row ∷ rows) keeps order = step (f row) refl (ascends_mapped f rows keeps order.1)
  where
    step : (made : Option (List Value)) → f row ≡ made → Ascends (filter_map f rows) → Ascends (cons_option made (filter_map f rows))
    step None is more = more
    step (Some made) is more =
        (subst (λ k. AllByRecursion (λ later. k <ℤ key_of later) (filter_map f rows)) (sym (keeps row made is)) (after_mapped f (key_of row) rows keeps order.0), more)

-- parts that pass a test, of rows that pass a test
abbrev pub passed_part : (List Value → Bool) → (List Value → List Value) → (List Value → Bool) → List Value → Option (List Value)
passed_part test make passes row = cond (test row && passes (make row)) (Some (make row)) None

pub parts_passed : (test : List Value → Bool) (make : List Value → List Value) (passes : List Value → Bool) (rows : List (List Value)) → filter passes (map make (filter test rows)) ≡ filter_map (passed_part test make passes) rows
parts_passed test make passes [] = refl
parts_passed test make passes (row ∷ rows) =
    let rest = parts_passed test make passes rows in
    elim (test row) as (λ t. filter passes (map make (cond t (row ∷ filter test rows) (filter test rows))) ≡ cons_option (cond (t && passes (make row)) (Some (make row)) None) (filter_map (passed_part test make passes) rows)) [
      | true ↦
          elim (passes (make row)) as (λ t. cond t (make row ∷ filter passes (map make (filter test rows))) (filter passes (map make (filter test rows))) ≡ cons_option (cond t (Some (make row)) None) (filter_map (passed_part test make passes) rows)) [
            | true ↦ ap (λ parts. make row ∷ parts) rest
            | false ↦ rest
          ]
      | false ↦ rest
    ]

listed_of_none : (places : List ℕ) → listed {A = Value} places [] ≡ []
listed_of_none [] = refl
listed_of_none (place ∷ places) = listed_of_none places

-- the values in the columns of a leaf have the key of the row
pub key-listed : (columns : List ℕ) (row : List Value) → key_of (listed (0 ∷ columns) row) ≡ key_of row
key-listed columns [] = ap key_of (listed_of_none columns)
key-listed columns (Int n ∷ values) = refl
key-listed columns (Text bytes ∷ values) = refl

kept_key : (t : Bool) (part made row : List Value) → key_of part ≡ key_of row → cond t (Some part) None ≡ Some made → key_of made ≡ key_of row
kept_key true part made row same is = let one : part ≡ made = cc in ap key_of (sym one) ∙ same
kept_key false part made row same is = absurd (cc)

pub parts_keep_keys : (test : List Value → Bool) (columns : List ℕ) (passes : List Value → Bool) → KeepsKeys (passed_part test (listed (0 ∷ columns)) passes)
parts_keep_keys test columns passes row made is =
    kept_key (test row && passes (listed (0 ∷ columns) row)) (listed (0 ∷ columns) row) made row (key-listed columns row) is
