-- Tables as contracts see them, and how their rows stand in the rows of which they are made.
use Rattle.std.specs.Prelude.{ℕ, zero, suc, ℤ, pos, ◌+◌, ◌==◌, not, if◌then◌else◌, Bool, List, [], ◌∷◌, ◌++◌, Option, Some, None, filter, map, option_and_then, option_map}
use Rattle.std.specs.List.{list_all, slice_get}
use Rattle.terms.specs.declared.cond.Cond.{Cond}
use Rattle.terms.specs.declared.value.Value.{Value}
use Rattle.terms.specs.declared.value.Value.TheVariants.{Int, Text}
use Rattle.terms.specs.Cond.{holds_of}
use Rattle.catalog.specs.Counts.{has}
use Rattle.answers.specs.declared.joined.Behind.{Behind}
use Rattle.answers.specs.declared.joined.Behind.TheVariants.{Nothing, One, Two, Three, Many}
use Rattle.answers.specs.declared.joined.Column.{Column}
use Rattle.answers.specs.declared.joined.Joined.{Joined}

-- rows over columns that go by their numbers
pub record Table : Type 0 where
  pub columns : List ℕ
  pub rows : List (List Value)

-- the rows behind the first one
abbrev pub rows_behind : Behind → List (List Value)
rows_behind Nothing = []
rows_behind (One row) = row ∷ []
rows_behind (Two rows) = rows
rows_behind (Three rows) = rows
rows_behind (Many rows) = rows

-- the rows of which a row is made
abbrev pub sources : Joined → List (List Value)
sources row = row.first ∷ rows_behind row.behind

-- the value in a column, if there is one
abbrev pub found_at : List (List Value) → ℕ → ℕ → Option Value
found_at rows source place = option_and_then (λ row. slice_get row place) (slice_get rows source)

abbrev pub value_at : Joined → Column → Option Value
value_at row column = found_at (sources row) column.source column.place

-- a value that is not there counts as 0
abbrev pub or_zero : Option Value → Value
or_zero None = Int (pos 0)
or_zero (Some value) = value

abbrev pub value_of : Joined → Column → Value
value_of row column = or_zero (value_at row column)

-- the values of a row
abbrev pub row_of : List Column → Joined → List Value
row_of columns row = map (value_of row) columns

abbrev pub numbers : List Column → List ℕ
numbers columns = map (λ column. column.number) columns

abbrev pub table_seen : List Column → List Joined → Table
table_seen columns rows = record { columns = numbers columns; rows = map (row_of columns) rows }

-- the column of a number
abbrev pub column_of : ℕ → List Column → Option Column
column_of number [] = None
column_of number (column ∷ columns) = if column.number == number then Some column else column_of number columns

-- what a row shows in a column
abbrev pub seen_in : List Column → Joined → ℕ → Option Value
seen_in columns row number = option_map (value_of row) (column_of number columns)

abbrev pub integer : Option Value → Option ℤ
integer None = None
integer (Some (Int n)) = Some n
integer (Some (Text bytes)) = None

abbrev pub int_of : List Column → Joined → ℕ → Option ℤ
int_of columns row number = integer (seen_in columns row number)

-- whether a row meets conditions
abbrev pub laid_meets : List Cond → List Column → Joined → Bool
laid_meets conds columns row = list_all (λ cond. holds_of cond (seen_in columns row cond.col)) conds

-- so many rows, with ones without values where there are fewer
abbrev pub padded : ℕ → List (List Value) → List (List Value)
padded zero rows = []
padded (suc count) [] = [] ∷ padded count []
padded (suc count) (row ∷ rows) = row ∷ padded count rows

-- a column of rows that stand behind so many others
abbrev pub moved : ℕ → Column → Column
moved count column = record { number = column.number; source = count + column.source; place = column.place }

-- columns, and behind them those others that are not among them
abbrev pub laid_beside : ℕ → List Column → List Column → List Column
laid_beside count columns others = columns ++ map (moved count) (filter (λ column. not (has (numbers columns) column.number)) others)

-- columns whose values stand in order in one row, from a place on
abbrev pub laid_from : ℕ → List ℕ → List Column
laid_from place [] = []
laid_from place (number ∷ rest) = (record { number = number; source = 0; place = place }) ∷ laid_from (suc place) rest

-- columns counted on from a width
abbrev pub laid_past : ℕ → List Column → List Column
laid_past width columns = map (λ column. record { number = width + column.number; source = column.source; place = column.place }) columns
