-- The columns over which places are counted in print.
use Rattle.std.specs.Prelude.{ℕ, map}
use Rattle.reader.specs.declared.print_statement.Columns.{Columns}
use Rattle.reader.specs.declared.print_statement.Columns.TheVariants.{OfSchema, OfOne, OfJoined}
use Rattle.reader.specs.Tree as tree
use Rattle.reader.specs.Written.{plain_column, column_of_joined}

-- the column at a place: by its plain name, or in a join with its relation
abbrev pub column_at : Columns → ℕ → tree.Column
column_at (OfSchema columns) place = plain_column (map (λ column. column.name) columns.now) place
column_at (OfOne source) place = plain_column source.now.columns place
column_at (OfJoined from joins) place = column_of_joined from.now joins.now place
