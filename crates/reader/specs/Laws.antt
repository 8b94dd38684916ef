-- Laws of what written commands mean.
use Rattle.std.specs.Prelude.{◌≡◌, ℕ, zero, suc, List, [], ◌∷◌, Some}
use Rattle.meaning.specs.declared.schema.RelationSchema.{RelationSchema}
use Rattle.meaning.specs.declared.statement.Select.{Select}
use Rattle.meaning.specs.Listed.{listed}
use Rattle.meaning.specs.Selected.{names_read}
use Rattle.reader.specs.Names.{select_of, command_of}
use Rattle.reader.specs.Tree as tree

-- `*` lists the columns of all relations, in their order
abbrev pub StarListsAll : Type 0
StarListsAll = (schema : List RelationSchema) (relation : List ℕ) (joins : List tree.Join) (conditions : List tree.Condition) (select : Select)
    → select_of schema (record { listed = tree.all; relation = relation; joins = joins; conditions = conditions }) ≡ Some select
    → listed select.columns (names_read select.from select.joins) ≡ names_read select.from select.joins

-- a join with the sides of its ON turned about
abbrev pub turned : tree.Join → tree.Join
turned join = record { relation = join.relation; left = join.right; right = join.left }

-- joins, that at a place turned about
abbrev pub turned_at : ℕ → List tree.Join → List tree.Join
turned_at place [] = []
turned_at zero (join ∷ joins) = turned join ∷ joins
turned_at (suc place) (join ∷ joins) = join ∷ turned_at place joins

-- a select with the sides of any ON turned about is the same command
abbrev pub SidesMayTurn : Type 0
SidesMayTurn = (schema : List RelationSchema) (select : tree.Select) (place : ℕ)
    → command_of schema (tree.select (record { listed = select.listed; relation = select.relation; joins = turned_at place select.joins; conditions = select.conditions }))
    ≡ command_of schema (tree.select select)
