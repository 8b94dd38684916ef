-- Tables: rows over numbered columns, in ascending order of their keys; and the parts of which a plan makes them.
use Rattle.std.specs.Prelude.{◌≡◌, ℕ, ℤ, if◌then◌else◌, List, [], ◌∷◌, Option, Some, length, option_map}
use Rattle.std.specs.List.{AllByRecursion, slice_get}
use Rattle.terms.specs.declared.leaf.Leaf.{Leaf}
use Rattle.terms.specs.declared.value.Value.{Value}
use Rattle.meaning.specs.declared.statement.Statement.{Statement}
use Rattle.meaning.specs.Relation.{Ascends}
use Rattle.meaning.specs.Whole.{Relations}
use Rattle.catalog.specs.Keyed.{row_at}
use Rattle.plan.specs.Found.{found}
use Rattle.plan.specs.Reduced.{same_leaf}
use Rattle.plan.specs.Rows.{Seen, rows, seen_part}
use Rattle.plan.specs.Shape.{Shape}
use Rattle.plan.specs.Uniform.{AreOnce}
use Rattle.answers.specs.FetchRows.{FetchRows}
use Rattle.answers.specs.Laid.{Table}

-- the row of a key, seen in columns
abbrev pub seen_rows : List ℕ → List (List Value) → ℤ → Option Seen
seen_rows columns rows key = option_map (seen_part columns) (row_at key rows)

-- the parts that were given of a leaf: the first ones of its name, and none where there are none
abbrev pub given : List FetchRows → Leaf → List (List Value)
given [] leaf = []
given (first ∷ rest) leaf = if same_leaf first.leaf leaf then first.parts else given rest leaf

-- parts of these columns: their keys ascend, and each has a value for each column
pub record AreParts (columns : List ℕ) (parts : List (List Value)) : Type 0 where
  pub order : Ascends parts
  pub wide : AllByRecursion (λ part. length part ≡ length columns) parts

-- a table has, by ascending keys, the rows of a plan over these contents; its columns begin with the key, none stands twice, and each row has a value for each
pub record HasRows (plan : Shape) (contents : Leaf → List (List Value)) (table : Table) : Type 0 where
  pub key : slice_get table.columns 0 ≡ Some 0
  pub once : AreOnce table.columns
  pub wide : AllByRecursion (λ row. length row ≡ length table.columns) table.rows
  pub order : Ascends table.rows
  pub seen : (key : ℤ) → seen_rows table.columns table.rows key ≡ rows plan contents key

-- a table has, by ascending keys, what a statement is to find in a whole database
pub record IsTableOf (statement : Statement) (whole : Relations) (table : Table) : Type 0 where
  pub order : Ascends table.rows
  pub seen : (key : ℤ) → seen_rows table.columns table.rows key ≡ found statement whole key
