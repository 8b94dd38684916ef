-- Scopes: the columns that a written column may mean.
use Rattle.std.specs.Prelude.{ℕ, ◌+◌, Bool, true, false, List, [], ◌∷◌, Option, Some, None, length, map, flat_map, option_map, option_and_then, nat_eq, if◌then◌else◌}
use Rattle.std.specs.Cmp.Lexicographic.{pointwise}
use Rattle.std.specs.List.{position_from, slice_get}
use Rattle.std.specs.Option.{option_copied}
use Rattle.terms.specs.declared.value.Kind.{Kind}
use Rattle.meaning.specs.declared.schema.Column as schema
use Rattle.meaning.specs.declared.schema.RelationSchema.{RelationSchema}
use Rattle.reader.specs.declared.scope.Found.{Found}
use Rattle.reader.specs.declared.scope.Table as code_table
use Rattle.reader.specs.Tree as tree

-- The answer of one step handed to the next, if it has one.
infixl 10 ◌>>=◌
abbrev pub ◌>>=◌ : {A B : Type 0} → Option A → (A → Option B) → Option B
o >>= next = option_and_then next o

-- Columns, and the name that may stand before theirs, if one may.
pub record Table : Type 0 where
  pub name : Option (List ℕ)
  pub columns : List schema.Column

-- The tables whose columns are meant, in their order.
abbrev pub Scope : Type 0
Scope = List Table

-- The table of the code.
abbrev pub table_of : code_table.Table → Table
table_of t = record { name = option_copied t.name; columns = t.columns.now }

-- The scopes of statements and of conditions alone.

abbrev pub relation_table : RelationSchema → Table
relation_table relation = record { name = Some relation.name; columns = relation.columns }

abbrev pub one_relation : RelationSchema → Scope
one_relation relation = relation_table relation ∷ []

abbrev pub columns_alone : List schema.Column → Scope
columns_alone columns = record { name = None; columns = columns } ∷ []

-- the types of columns
abbrev pub types : List schema.Column → List Kind
types columns = map (λ column. column.kind) columns

-- the types of all columns of a scope
abbrev pub types_in : Scope → List Kind
types_in scope = flat_map (λ table. types table.columns) scope

-- the first column of a name: its place, and its type
abbrev pub column_named : List schema.Column → List ℕ → Option Found
column_named columns name = do
  place ← position_from (λ c. pointwise nat_eq c.name name) 0 columns
  kind ← slice_get (types columns) place
  Some (record { place = place; kind = kind })

-- whether a qualifier, where there is one, is the name that may stand there
abbrev pub is_qualifier : Option (List ℕ) → Option (List ℕ) → Bool
is_qualifier name None = true
is_qualifier None (Some qualifier) = false
is_qualifier (Some name) (Some qualifier) = pointwise nat_eq name qualifier

-- the column of a table that a written one means
abbrev pub found_in_table : Table → tree.Column → Option Found
found_in_table table column = if is_qualifier table.name column.relation then column_named table.columns column.name else None

-- a column counted on from others
abbrev pub counted_on : ℕ → Found → Found
counted_on count found = record { place = count + found.place; kind = found.kind }

-- what is there, if it is, and the others
abbrev pub and_others : {A : Type 0} → Option A → List A → List A
and_others None others = others
and_others (Some x) others = x ∷ others

-- the columns of tables that a written one may mean: those of each are counted on from all before them
abbrev pub all_found : ℕ → List Table → tree.Column → List Found
all_found count [] column = []
all_found count (table ∷ tables) column =
    and_others (option_map (counted_on count) (found_in_table table column)) (all_found (count + length table.columns) tables column)

-- the only one of a list, if just one is there
abbrev pub only_one : {A : Type 0} → List A → Option A
only_one [] = None
only_one (x ∷ []) = Some x
only_one (x ∷ y ∷ others) = None

-- the column that a written one means: one table has it, and no other has one such
abbrev pub found_in : Scope → tree.Column → Option Found
found_in scope column = only_one (all_found 0 scope column)
