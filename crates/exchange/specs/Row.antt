-- The row that a record is.
use Rattle.std.specs.Prelude.{◌≡◌, ℕ, ◌==◌, if◌then◌else◌, List, [], length, unwrap_or, option_and_then, slice_get, Result, Ok, Err}
use Rattle.terms.specs.declared.value.Value.{Value}
use Rattle.meaning.specs.declared.schema.Column.{Column}
use Rattle.exchange.specs.declared.field.FieldFault.{FieldFault}
use Rattle.exchange.specs.declared.row.RowFault.{RowFault}
use Rattle.exchange.specs.declared.row.RowFault.TheVariants.{Count, Field, Memory}
use Rattle.exchange.specs.Each.{each_from}
use Rattle.exchange.specs.Field.{value_of}

-- what is answered, seen by view, is what is meant; that memory ran out says nothing
abbrev pub IsAnswer : {X Y : Type 0} → (X → Y) → Result X RowFault → Result Y RowFault → Type 0
IsAnswer view (Ok x) meant = meant ≡ Ok (view x)
IsAnswer view (Err Memory) meant = Unit {0}
IsAnswer view (Err fault) meant = meant ≡ Err fault

-- the field of a column: that at the column's place, or an empty one where there is none
abbrev pub field_of : List ℕ → List (List ℕ) → ℕ → List ℕ
field_of order fields number = unwrap_or (option_and_then (λ place. slice_get fields place) (slice_get order number)) []

-- a value, or the fault of a column's field
abbrev pub in_column : ℕ → Result Value FieldFault → Result Value RowFault
in_column number (Ok value) = Ok value
in_column number (Err fault) = Err (Field number fault)

-- the value of a column
abbrev pub column_value : List ℕ → List (List ℕ) → ℕ → Column → Result Value RowFault
column_value order fields number column = in_column number (value_of column.kind (field_of order fields number))

-- the row of a record of as many fields as there are columns: a value for each column
abbrev pub row_of : List Column → List ℕ → List (List ℕ) → Result (List Value) RowFault
row_of columns order fields = if length fields == length columns then each_from (column_value order fields) 0 columns else Err (Count (length fields))
