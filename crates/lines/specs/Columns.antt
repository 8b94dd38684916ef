-- Columns by their names.
use Rattle.std.specs.Prelude.{ℕ, List, [], ◌∷◌, ◌++◌, codes, map, option_map, unwrap_or}
use Rattle.terms.specs.declared.cond.Cond.{Cond}
use Rattle.meaning.specs.declared.schema.Column.{Column}
use Rattle.meaning.specs.declared.schema.RelationSchema.{RelationSchema}
use Rattle.meaning.specs.Schema.{relation_named}
use Rattle.reader.specs.PrintStatement.{conds_bytes}

-- the columns of the relation of this name, none where it is not there
abbrev pub columns_of : List RelationSchema → List ℕ → List Column
columns_of relations name = unwrap_or (option_map (λ relation. relation.columns) (relation_named name relations)) []

abbrev pub names_of_columns : List Column → List (List ℕ)
names_of_columns columns = map (λ column. column.name) columns

-- conditions on columns of these names, if there are any
abbrev pub where_text : List (List ℕ) → List Cond → List ℕ
where_text names [] = []
where_text names (cond ∷ conds) = codes " where " ++ conds_bytes names (cond ∷ conds)
