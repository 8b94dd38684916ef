-- A relation with its columns, in a line.
use Rattle.std.specs.Prelude.{ℕ, List, [], ◌∷◌, ◌++◌, codes}
use Rattle.meaning.specs.declared.schema.Column.{Column}
use Rattle.meaning.specs.declared.schema.RelationSchema.{RelationSchema}
use Rattle.reader.specs.PrintStatement.{separated_bytes}
use Rattle.catalog.specs.Catalogue.{kind_word}

-- a column with its type
abbrev pub column_text : Column → List ℕ
column_text column = column.name ++ 32 ∷ kind_word column.kind

-- a relation with its columns, in a line
abbrev pub schema_line : RelationSchema → List ℕ
schema_line relation = relation.name ++ codes " (" ++ separated_bytes column_text (codes ", ") relation.columns ++ codes ")" ++ 10 ∷ []
