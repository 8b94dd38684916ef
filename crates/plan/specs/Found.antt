-- What a statement is to find, by the serial meaning.
use Rattle.std.specs.Prelude.{ℕ, ℤ, if◌then◌else◌, List, [], ◌∷◌, Option, Some, None, length, option_and_then}
use Rattle.terms.specs.declared.cond.Cond.{Cond}
use Rattle.terms.specs.declared.value.Value.{Value}
use Rattle.terms.specs.Cond.{conds_hold}
use Rattle.meaning.specs.declared.statement.Statement.{Statement}
use Rattle.meaning.specs.declared.statement.Statement.TheVariants as statement
use Rattle.meaning.specs.Selected.{rows_read}
use Rattle.meaning.specs.Whole.{Relations, rows_of}
use Rattle.catalog.specs.Keyed.{row_at}
use Rattle.plan.specs.Need.{columns_read, key_is, links_of, places_to}
use Rattle.plan.specs.Rows.{Seen, seen_of}

-- the conditions of a statement; an INSERT asks for its key, and a REFRAGMENT for every row
abbrev pub asked : Statement → List Cond
asked (statement.Select select) = select.conds
asked (statement.Insert insert) = key_is insert.row ∷ []
asked (statement.Update update) = update.conds
asked (statement.Delete delete) = delete.conds
asked (statement.Refragment refragment) = []

-- the whole rows that a statement reads or may change
abbrev pub rows_asked : Statement → Relations → List (List Value)
rows_asked (statement.Select select) whole = rows_read select.from select.joins whole
rows_asked (statement.Insert insert) whole = rows_of whole insert.into
rows_asked (statement.Update update) whole = rows_of whole update.relation.name
rows_asked (statement.Delete delete) whole = rows_of whole delete.relation.name
rows_asked (statement.Refragment refragment) whole = rows_of whole refragment.relation.name

-- the columns that a statement is to see, besides the key; a change sees all, and so does a REFRAGMENT
abbrev pub columns_asked : Statement → List ℕ
columns_asked (statement.Select select) = columns_read (links_of select) select
columns_asked (statement.Insert insert) = []
columns_asked (statement.Update update) = places_to (length update.relation.columns)
columns_asked (statement.Delete delete) = places_to (length delete.relation.columns)
columns_asked (statement.Refragment refragment) = places_to (length refragment.relation.columns)

-- a row of which the conditions hold, seen in these columns
abbrev pub found_of : List Cond → List ℕ → List Value → Option Seen
found_of conds columns row = if conds_hold conds row then Some (seen_of columns row) else None

-- what a statement is to find at a key of a whole database
abbrev pub found : Statement → Relations → ℤ → Option Seen
found statement whole key = option_and_then (found_of (asked statement) (columns_asked statement)) (row_at key (rows_asked statement whole))
