-- What the program shows of a statement's plan as a tree.
use Rattle.std.specs.Prelude.{◌≡◌, ℕ, if◌then◌else◌, List, [], ◌∷◌, ◌++◌, codes, flat_map, length, map}
use Rattle.std.specs.List.{Contains}
use Rattle.meaning.specs.declared.schema.Column.{Column}
use Rattle.meaning.specs.declared.schema.RelationSchema.{RelationSchema}
use Rattle.meaning.specs.declared.statement.Join.{Join}
use Rattle.meaning.specs.declared.statement.Statement.{Statement}
use Rattle.meaning.specs.declared.statement.Statement.TheVariants as statement
use Rattle.catalog.specs.Catalogue.{Catalogue}
use Rattle.catalog.specs.FragmentLeaf.{schemas_of}
use Rattle.plan.specs.declared.fetch.Fetch.{Fetch}
use Rattle.plan.specs.Reduced.{FindsAll}
use Rattle.plan.specs.Stated.{AreFetchesOf}
use Rattle.plan.specs.Uniform.{EachRead}
use Rattle.lines.specs.Columns.{columns_of}
use Rattle.lines.specs.FetchLine.{count_line}
use Rattle.plan.specs.Shape.{Shape}
use Rattle.lines.specs.Level.{line}
use Rattle.lines.specs.PlanLines.{plan_lines, reads_nothing}
use Rattle.lines.specs.declared.plan_lines.Within.TheVariants.{Nothing}

-- a column by its name with its relation's
abbrev pub qualified : List ℕ → Column → Column
qualified relation column = record { name = relation ++ 46 ∷ column.name; kind = column.kind }

abbrev pub qualified_all : List RelationSchema → List ℕ → List Column
qualified_all relations name = map (qualified name) (columns_of relations name)

-- the columns of a select's rows: with their relations' names exactly in a join
abbrev pub columns_joined : List RelationSchema → List ℕ → List Join → List Column
columns_joined relations name joins = qualified_all relations name ++ flat_map (λ join. qualified_all relations join.relation.name) joins

abbrev pub select_columns : List RelationSchema → List ℕ → List Join → List Column
select_columns relations name [] = columns_of relations name
select_columns relations name (join ∷ joins) = columns_joined relations name (join ∷ joins)

-- the columns of the rows that a statement is to find
abbrev pub statement_columns : List RelationSchema → Statement → List Column
statement_columns relations (statement.Select select) = select_columns relations select.from.name select.joins
statement_columns relations (statement.Insert insert) = columns_of relations insert.into
statement_columns relations (statement.Update update) = columns_of relations update.relation.name
statement_columns relations (statement.Delete delete) = columns_of relations delete.relation.name
statement_columns relations (statement.Refragment refragment) = columns_of relations refragment.relation.name

-- the lines of a plan of rows over these columns
abbrev pub tree_lines : Catalogue → List Column → Shape → List ℕ
tree_lines catalogue columns plan = if reads_nothing plan then line [] (codes "nothing") else plan_lines catalogue columns Nothing [] plan

-- The text of a plan of a statement as a tree, of one that reads the fetches alone and finds what the statement is to find; and how many fetches there are.
pub record IsPlanTree (catalogue : Catalogue) (statement : Statement) (text : List ℕ) : Type 0 where
  pub fetches : List Fetch
  pub are : AreFetchesOf catalogue statement fetches
  pub plan : Shape
  pub finds : FindsAll catalogue statement fetches plan
  pub fetched : EachRead (λ read. Contains fetches read) plan
  pub same : text ≡ tree_lines catalogue (statement_columns (schemas_of catalogue) statement) plan ++ count_line (length fetches)
