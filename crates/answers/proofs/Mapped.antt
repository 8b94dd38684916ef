-- What rows with ascending keys have at a key, after a map that keeps the keys of these rows.
use Rattle.std.proofs.Common.{◌≡◌, ℕ, ℤ, ◌<ℤ◌, Bool, true, false, cond, List, [], ◌∷◌, map, filter, Option, Some, None, option_map, option_and_then, refl, ap, sym, ◌∙◌, subst, arith}
use Rattle.std.specs.List.{AllByRecursion, cons_option, filter_map}
use Rattle.std.specs.Ordering.{int_eq}
use Rattle.std.proofs.lemmas.Int.{ints}
use Rattle.terms.specs.declared.value.Value.{Value}
use Rattle.terms.specs.Row.{key_of}
use Rattle.meaning.specs.Relation.{Ascends}
use Rattle.catalog.specs.Keyed.{row_at}
use Rattle.plan.specs.Rows.{Seen, seen_part}
use Rattle.plan.proofs.AtKey.{none_after, one_at}
use Rattle.answers.specs.Table.{seen_rows}

-- a map keeps the key of a row, where it keeps the row
abbrev pub KeepsKeyOf : (List Value → Option (List Value)) → List Value → Type 0
KeepsKeyOf f row = (made : List Value) → f row ≡ Some made → key_of made ≡ key_of row

pub at_kept : (f : List Value → Option (List Value)) (key : ℤ) (rows : List (List Value)) → AllByRecursion (KeepsKeyOf f) rows → Ascends rows → row_at key (filter_map f rows) ≡ option_and_then f (row_at key rows)
at_kept f key [] keeps order = refl
at_kept f key (row ∷ rows) keeps order =
    one_at f key row (filter_map f rows) (row_at key rows) (f row) (int_eq (key_of row) key) refl refl keeps.0 (at_kept f key rows keeps.1 order.1) (λ same. none_after key row rows same order.0)

one_below : (bound : ℤ) (row : List Value) (made : Option (List Value)) (rest : List (List Value)) → ((other : List Value) → made ≡ Some other → key_of other ≡ key_of row) → bound <ℤ key_of row →
    AllByRecursion (λ later. bound <ℤ key_of later) rest → AllByRecursion (λ later. bound <ℤ key_of later) (cons_option made rest)
one_below bound row None rest keeps below more = more
one_below bound row (Some made) rest keeps below more = let P : ℤ → Type 0 = λ k. bound <ℤ k in (subst P (sym (keeps made refl)) below, more)

below_kept : (f : List Value → Option (List Value)) (bound : ℤ) (rows : List (List Value)) → AllByRecursion (KeepsKeyOf f) rows → AllByRecursion (λ later. bound <ℤ key_of later) rows → AllByRecursion (λ later. bound <ℤ key_of later) (filter_map f rows)
below_kept f bound [] keeps below = tt
below_kept f bound (row ∷ rows) keeps below = one_below bound row (f row) (filter_map f rows) keeps.0 below.0 (below_kept f bound rows keeps.1 below.1)

one_ascends : (row : List Value) (made : Option (List Value)) (rest : List (List Value)) → ((other : List Value) → made ≡ Some other → key_of other ≡ key_of row) → AllByRecursion (λ later. key_of row <ℤ key_of later) rest →
    Ascends rest → Ascends (cons_option made rest)
one_ascends row None rest keeps below order = order
one_ascends row (Some made) rest keeps below order = let P : ℤ → Type 0 = λ k. AllByRecursion (λ later. k <ℤ key_of later) rest in (subst P (sym (keeps made refl)) below, order)

-- the made rows ascend too
pub ascends_kept : (f : List Value → Option (List Value)) (rows : List (List Value)) → AllByRecursion (KeepsKeyOf f) rows → Ascends rows → Ascends (filter_map f rows)
ascends_kept f [] keeps order = tt
ascends_kept f (row ∷ rows) keeps order = one_ascends row (f row) (filter_map f rows) keeps.0 (below_kept f (key_of row) rows keeps.1 order.0) (ascends_kept f rows keeps.1 order.1)

-- what the made rows show at a key, by what the rows show there
pub seen_mapped : (f : List Value → Option (List Value)) (g : Seen → Option Seen) (columns made_columns : List ℕ) (rows : List (List Value)) (key : ℤ) → AllByRecursion (KeepsKeyOf f) rows → Ascends rows →
    ((row : List Value) → row_at key rows ≡ Some row → option_map (seen_part made_columns) (f row) ≡ g (seen_part columns row)) →
    seen_rows made_columns (filter_map f rows) key ≡ option_and_then g (seen_rows columns rows key)
seen_mapped f g columns made_columns rows key keeps order same = ap (option_map (seen_part made_columns)) (at_kept f key rows keeps order) ∙ at (row_at key rows) refl
  where
    at : (found : Option (List Value)) → row_at key rows ≡ found → option_map (seen_part made_columns) (option_and_then f found) ≡ option_and_then g (option_map (seen_part columns) found)
    at None is = refl
    at (Some row) is = same row is

-- what holds of each row
pub each : (P : List Value → Type 0) (rows : List (List Value)) → ((row : List Value) → P row) → AllByRecursion P rows
each P [] all = tt
each P (row ∷ rows) all = (all row, each P rows all)

pub each_from : (P Q : List Value → Type 0) (rows : List (List Value)) → ((row : List Value) → P row → Q row) → AllByRecursion P rows → AllByRecursion Q rows
each_from P Q [] more all = tt
each_from P Q (row ∷ rows) more all = (more row all.0, each_from P Q rows more all.1)

-- a filter and a map, as such maps
abbrev pub passing : (List Value → Bool) → List Value → Option (List Value)
passing test row = cond (test row) (Some row) None

pub filter_is : (test : List Value → Bool) (rows : List (List Value)) → filter test rows ≡ filter_map (passing test) rows
filter_is test [] = refl
filter_is test (row ∷ rows) =
    elim (test row) as (λ t. cond t (row ∷ filter test rows) (filter test rows) ≡ cons_option (cond t (Some row) None) (filter_map (passing test) rows)) [
      | true ↦ ap (λ (rest : List (List Value)). row ∷ rest) (filter_is test rows)
      | false ↦ filter_is test rows
    ]

passing_keeps : (t : Bool) (row made : List Value) → cond t (Some row) None ≡ Some made → key_of made ≡ key_of row
passing_keeps true row made is = let one : row ≡ made = cc in ap key_of (sym one)
passing_keeps false row made is = absurd (cc)

pub passing_keys : (test : List Value → Bool) (row : List Value) → KeepsKeyOf (passing test) row
passing_keys test row made is = passing_keeps (test row) row made is

pub map_is : (make : List Value → List Value) (rows : List (List Value)) → map make rows ≡ filter_map (λ row. Some (make row)) rows
map_is make [] = refl
map_is make (row ∷ rows) = ap (λ (rest : List (List Value)). make row ∷ rest) (map_is make rows)

-- the key of a row that is found
found_step : (key : ℤ) (t : Bool) (first : List Value) (rest : Option (List Value)) (row : List Value) → int_eq (key_of first) key ≡ t → (rest ≡ Some row → int_eq (key_of row) key ≡ true) → cond t (Some first) rest ≡ Some row → int_eq (key_of row) key ≡ true
found_step key true first rest row here more is = let one : first ≡ row = cc in ap (λ r. int_eq (key_of r) key) (sym one) ∙ here
found_step key false first rest row here more is = more is

found_test : (key : ℤ) (rows : List (List Value)) (row : List Value) → row_at key rows ≡ Some row → int_eq (key_of row) key ≡ true
found_test key [] row is = absurd (cc)
found_test key (first ∷ rows) row is = found_step key (int_eq (key_of first) key) first (row_at key rows) row refl (found_test key rows row) is

pub one_key : (one key : ℤ) → int_eq one key ≡ true → one ≡ key
one_key one key h = grind (arith, ints)

pub found_key : (key : ℤ) (rows : List (List Value)) (row : List Value) → row_at key rows ≡ Some row → key_of row ≡ key
found_key key rows row is = one_key (key_of row) key (found_test key rows row is)
