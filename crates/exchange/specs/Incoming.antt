-- What a file of rows gives, read by read.
use Rattle.std.specs.Prelude.{◌≡◌, ◌≢◌, ◌⊎◌, ℕ, Bool, true, false, List, length, Option, Some, None, option_map, Ok, Err}
use Rattle.terms.specs.declared.value.Value.{Value}
use Rattle.meaning.specs.declared.schema.Column.{Column}
use Rattle.csv.specs.declared.parser.State.{State}
use Rattle.csv.specs.declared.parser.State.TheVariants as states
use Rattle.csv.specs.declared.reader.Reader.{Reader}
use Rattle.csv.specs.declared.reader.Trim.TheVariants as trim
use Rattle.csv.specs.Reading.{ReadRecord, ReadsNext, Ready, TookRecord, default_config, expected_len, is_flexible, pending_of, reader_config, reader_source, reader_state, reader_trim, strip_bom}
use Rattle.exchange.specs.declared.incoming.Incoming.{Incoming}
use Rattle.exchange.specs.declared.line_fault.LineWhat.{LineWhat}
use Rattle.exchange.specs.declared.line_fault.LineWhat.TheVariants.{Empty, Header, Length, Row, Io, Memory}
use Rattle.exchange.specs.Order.{order_of}
use Rattle.exchange.specs.Row.{row_of}

-- ---- the parts of a file that is being read

-- the reader of its records
abbrev pub reader_in : {R : Type 0} → Incoming R → Reader R
reader_in incoming = incoming.reader

abbrev pub columns_in : {R : Type 0} → Incoming R → List Column
columns_in incoming = incoming.columns

-- which field each column has
abbrev pub order_in : {R : Type 0} → Incoming R → List ℕ
order_in incoming = incoming.order.items

-- the next read is of one record, as it stands, of as many fields as the first
pub record IsReading {R : Type 0} (reader : Reader R) : Type 0 where
  pub ready : Ready reader
  pub untrimmed : reader_trim reader ≡ trim.None
  pub equal : is_flexible reader ≡ false

-- ---- the first line

-- the first record of these bytes is that of these fields, if there is one; nothing is said where the bytes are not known
abbrev pub IsFirst : Option (List ℕ) → Bool → List (List ℕ) → Type 0
IsFirst bytes found fields = (rest : Option (List ℕ)) × (state : State) × ReadsNext default_config states.StartRecord (option_map strip_bom bytes) rest found fields state

-- a file is open whose first record has these names
pub record Opens {R : Type 0} (rem : R → Option (List ℕ)) (columns : List Column) (input : R) (opened : Incoming R) (names : List (List ℕ)) : Type 0 where
  pub reads : IsReading (reader_in opened)
  pub first : ReadsNext default_config states.StartRecord (option_map strip_bom (rem input)) (pending_of (rem (reader_source (reader_in opened))) (reader_in opened)) true names (reader_state (reader_in opened))
  pub config : reader_config (reader_in opened) ≡ default_config
  pub width : expected_len (reader_in opened) ≡ Some (length names)
  pub same : columns_in opened ≡ columns
  pub places : order_of columns names ≡ Ok (order_in opened)

-- why names are not those of the columns
abbrev pub ExplainsOrder : List Column → List (List ℕ) → LineWhat → Type 0
ExplainsOrder columns names (Header fault) = order_of columns names ≡ Err fault
ExplainsOrder columns names Memory = Unit {0}
ExplainsOrder columns names Empty = ⊥
ExplainsOrder columns names (Length found first) = ⊥
ExplainsOrder columns names (Row fault) = ⊥
ExplainsOrder columns names (Io error) = ⊥

-- why a file is not opened: it has no first record, or that does not have the names of the columns
abbrev pub ExplainsOpen : Option (List ℕ) → List Column → LineWhat → Type 0
ExplainsOpen bytes columns Empty = (names : List (List ℕ)) × IsFirst bytes false names
ExplainsOpen bytes columns (Header fault) = (names : List (List ℕ)) × IsFirst bytes true names × (order_of columns names ≡ Err fault)
ExplainsOpen bytes columns Memory = Unit {0}
ExplainsOpen bytes columns (Io error) = Unit {0}
ExplainsOpen bytes columns (Length found first) = ⊥
ExplainsOpen bytes columns (Row fault) = ⊥

-- ---- the lines behind it

-- the next record is a row, or there is none
abbrev pub GivesNext : {R : Type 0} → (R → Option (List ℕ)) → Incoming R → Incoming R → Option (List Value) → Type 0
GivesNext rem old new (Some row) = (fields : List (List ℕ)) × ReadRecord rem (reader_in old) (reader_in new) true fields × (row_of (columns_in old) (order_in old) fields ≡ Ok row)
GivesNext rem old new None = (fields : List (List ℕ)) × ReadRecord rem (reader_in old) (reader_in new) false fields

-- why no record is read: the next has another number of fields than the first
abbrev pub ExplainsRead : {R : Type 0} → (R → Option (List ℕ)) → Reader R → Reader R → LineWhat → Type 0
ExplainsRead rem old new (Length found first) = (fields : List (List ℕ)) × TookRecord rem old new fields × (length fields ≡ found) × (expected_len old ≡ Some first) × (first ≢ found)
ExplainsRead rem old new Memory = Unit {0}
ExplainsRead rem old new (Io error) = Unit {0}
ExplainsRead rem old new Empty = ⊥
ExplainsRead rem old new (Header fault) = ⊥
ExplainsRead rem old new (Row fault) = ⊥

-- why a record's fields are no row
abbrev pub ExplainsRow : List Column → List ℕ → List (List ℕ) → LineWhat → Type 0
ExplainsRow columns order fields (Row fault) = row_of columns order fields ≡ Err fault
ExplainsRow columns order fields Memory = Unit {0}
ExplainsRow columns order fields Empty = ⊥
ExplainsRow columns order fields (Header fault) = ⊥
ExplainsRow columns order fields (Length found first) = ⊥
ExplainsRow columns order fields (Io error) = ⊥

-- why the next record is no row: it could not be read, or is read and is none
abbrev pub ExplainsNext : {R : Type 0} → (R → Option (List ℕ)) → Incoming R → Incoming R → LineWhat → Type 0
ExplainsNext rem old new what =
    ExplainsRead rem (reader_in old) (reader_in new) what
    ⊎ ((fields : List (List ℕ)) × ReadRecord rem (reader_in old) (reader_in new) true fields × ExplainsRow (columns_in old) (order_in old) fields what)

-- the columns and their places stay
abbrev pub KeepsColumns : {R : Type 0} → Incoming R → Incoming R → Type 0
KeepsColumns old new = (columns_in new ≡ columns_in old) × (order_in new ≡ order_in old)
