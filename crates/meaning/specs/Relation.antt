-- Relations: rows in ascending order of their keys.
use Rattle.std.specs.Prelude.{◌≡◌, ℕ, ℤ, ◌<ℤ◌, List, [], ◌∷◌, Bool, if◌then◌else◌, insert, int_lt, length, ◌≤◌}
use Rattle.std.specs.List.{AllByRecursion, list_any}
use Rattle.std.specs.Ordering.{int_eq}
use Rattle.terms.specs.declared.value.Kind.{Kind}
use Rattle.terms.specs.declared.value.Value.{Value}
use Rattle.terms.specs.Row.{key_of, FitsKinds}

-- each row's key is below the keys of the rows after it
abbrev pub Ascends : List (List Value) → Type 0
Ascends [] = Unit {0}
Ascends (row ∷ rows) = AllByRecursion (λ later. key_of row <ℤ key_of later) rows × Ascends rows

-- a relation over columns of these types: rows that fit, with strictly ascending keys
pub record IsRelation (kinds : List Kind) (rows : List (List Value)) : Type 0 where
  pub fit : AllByRecursion (FitsKinds kinds) rows
  pub ascends : Ascends rows

-- whether some row has the key
abbrev pub has_key : ℤ → List (List Value) → Bool
has_key key rows = list_any (λ row. int_eq (key_of row) key) rows

-- the rows with one more, in its place by the order of the keys
abbrev pub insert_row : List Value → List (List Value) → List (List Value)
insert_row row [] = row ∷ []
insert_row row (other ∷ rows) = if int_lt (key_of row) (key_of other) then row ∷ other ∷ rows else other ∷ insert_row row rows

-- the row goes in at this place
pub record GoesAt (rows : List (List Value)) (row : List Value) (place : ℕ) : Type 0 where
  pub within : place ≤ length rows
  pub inserted : insert rows place row ≡ insert_row row rows
