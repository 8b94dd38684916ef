-- Which field of a record each column has, by the names in a file's first line.
use Rattle.std.specs.Prelude.{◌≡◌, ℕ, Bool, not, nat_eq, if◌then◌else◌, List, [], ◌∷◌, ◌++◌, length, position, Option, Some, None, Result, Ok, Err}
use Rattle.std.specs.Cmp.Lexicographic.{pointwise}
use Rattle.std.specs.List.{list_any}
use Rattle.std.specs.Option.{ok_or}
use Rattle.meaning.specs.declared.schema.Column.{Column}
use Rattle.exchange.specs.declared.order.HeaderFault.{HeaderFault}
use Rattle.exchange.specs.declared.order.HeaderFault.TheVariants.{Unknown, Twice, Lacking, Memory}
use Rattle.exchange.specs.Each.{each_from}

-- what is answered, seen by view, is what is meant; that memory ran out says nothing
abbrev pub IsAnswer : {X Y : Type 0} → (X → Y) → Result X HeaderFault → Result Y HeaderFault → Type 0
IsAnswer view (Ok x) meant = meant ≡ Ok (view x)
IsAnswer view (Err Memory) meant = Unit {0}
IsAnswer view (Err fault) meant = meant ≡ Err fault

-- whether a column has the name
abbrev pub is_column : List Column → List ℕ → Bool
is_column columns name = list_any (λ column. pointwise nat_eq column.name name) columns

-- the place of the first name that no column has
abbrev pub unknown : List Column → List (List ℕ) → Option ℕ
unknown columns names = position (λ name. not (is_column columns name)) names

-- the place of the first name that stands before already
abbrev pub twice_after : List (List ℕ) → List (List ℕ) → Option ℕ
twice_after earlier [] = None
twice_after earlier (name ∷ names) =
    if list_any (λ other. pointwise nat_eq other name) earlier then Some (length earlier) else twice_after (earlier ++ name ∷ []) names

-- the place of a column among the names
abbrev pub place_of : List (List ℕ) → ℕ → Column → Result ℕ HeaderFault
place_of names number column = ok_or (position (λ name. pointwise nat_eq name column.name) names) (Lacking number)

-- a fault at a place, if there is one, or else what follows
abbrev pub unless : {X : Type 0} → (ℕ → HeaderFault) → Option ℕ → Result X HeaderFault → Result X HeaderFault
unless fault None following = following
unless fault (Some place) following = Err (fault place)

-- the places of all columns among the names, in the columns' order, where each name is that of another column
abbrev pub order_of : List Column → List (List ℕ) → Result (List ℕ) HeaderFault
order_of columns names = unless Unknown (unknown columns names) (unless Twice (twice_after [] names) (each_from (place_of names) 0 columns))
