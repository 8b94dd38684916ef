-- What a SELECT reads, and what it keeps of that.
use Rattle.std.specs.Prelude.{ℕ, List, [], ◌∷◌, ◌++◌, Option, Some, None, map, filter, find, flat_map}
use Rattle.std.specs.List.{filter_map, slice_get}
use Rattle.std.specs.Option.{option_map}
use Rattle.std.specs.Ordering.{int_eq}
use Rattle.terms.specs.declared.value.Value.{Value}
use Rattle.terms.specs.declared.value.Value.TheVariants.{Int, Text}
use Rattle.terms.specs.Cond.{conds_hold}
use Rattle.terms.specs.Row.{key_of}
use Rattle.meaning.specs.declared.statement.Source.{Source}
use Rattle.meaning.specs.declared.statement.Join.{Join}
use Rattle.meaning.specs.declared.statement.Select.{Select}
use Rattle.meaning.specs.Listed.{listed}
use Rattle.meaning.specs.Whole.{Relations, rows_of}

-- the names of a relation's columns, each after the relation's name and a dot
abbrev pub qualified : Source → List (List ℕ)
qualified source = map (λ column. source.name ++ 46 ∷ column) source.columns

-- the names of the columns that a SELECT reads: with joins those of all its relations, qualified
abbrev pub names_joined : Source → List Join → List (List ℕ)
names_joined from joins = qualified from ++ flat_map (λ join. qualified join.relation) joins

abbrev pub names_read : Source → List Join → List (List ℕ)
names_read from [] = from.columns
names_read from (join ∷ joins) = names_joined from (join ∷ joins)

-- the first row whose key is the value; none for a text, or where there is no value
abbrev pub partner : List (List Value) → Option Value → Option (List Value)
partner rows None = None
partner rows (Some (Text bytes)) = None
partner rows (Some (Int n)) = find (λ row. int_eq (key_of row) n) rows

-- a row, followed by the row among the others whose key is the column's value
abbrev pub paired : ℕ → List (List Value) → List Value → Option (List Value)
paired col others row = option_map (λ other. row ++ other) (partner others (slice_get row col))

-- each row with its partner; a row without one is dropped
abbrev pub joined : ℕ → List (List Value) → List (List Value) → List (List Value)
joined col others rows = filter_map (paired col others) rows

-- rows joined with one relation after another
abbrev pub rows_joined : Relations → List Join → List (List Value) → List (List Value)
rows_joined whole [] rows = rows
rows_joined whole (join ∷ joins) rows = rows_joined whole joins (joined join.col (rows_of whole join.relation.name) rows)

-- the rows that a SELECT reads
abbrev pub rows_read : Source → List Join → Relations → List (List Value)
rows_read from joins whole = rows_joined whole joins (rows_of whole from.name)

-- the rows that meet all conditions, cut to the listed columns; equal rows stay
abbrev pub selected : Select → List (List Value) → List (List Value)
selected select rows = map (listed select.columns) (filter (conds_hold select.conds) rows)
