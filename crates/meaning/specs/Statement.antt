-- Which statements fit a schema.
use Rattle.std.specs.Prelude.{◌≡◌, ◌≢◌, ℕ, Bool, true, false, ◌≤◌, ◌<◌, neg_ℤ, pos, ◌≤ℤ◌, List, [], ◌∷◌, ◌++◌, Some, length}
use Rattle.std.specs.List.{AllByRecursion, slice_get}
use Rattle.terms.specs.declared.value.Kind.{Kind}
use Rattle.terms.specs.declared.value.Kind.TheVariants as kinds
use Rattle.terms.specs.Cond.{IsCondOf}
use Rattle.terms.specs.Row.{FitsKinds}
use Rattle.terms.specs.Value.{Fits, kind_of}
use Rattle.meaning.specs.declared.schema.RelationSchema.{RelationSchema}
use Rattle.meaning.specs.declared.statement.Statement.{Statement}
use Rattle.meaning.specs.declared.statement.Statement.TheVariants as statement
use Rattle.meaning.specs.declared.statement.Join.{Join}
use Rattle.meaning.specs.declared.statement.Select.{Select}
use Rattle.meaning.specs.declared.statement.Insert.{Insert}
use Rattle.meaning.specs.declared.statement.Assigned.{Assigned}
use Rattle.meaning.specs.declared.statement.Assigned.TheVariants as assigned
use Rattle.meaning.specs.declared.statement.Assignment.{Assignment}
use Rattle.meaning.specs.declared.statement.Update.{Update}
use Rattle.meaning.specs.declared.statement.Delete.{Delete}
use Rattle.meaning.specs.declared.statement.Refragment.{Refragment}
use Rattle.meaning.specs.Schema.{relation_named, kinds_of, names_of}

-- A join of the schema, behind relations of these names and columns of these types: another relation, there under its
-- name, with its columns' names and an integer key; the column that the key is compared with is an integer too.
pub record IsJoinOf (schema : List RelationSchema) (earlier : List (List ℕ)) (before : List Kind) (join : Join) (other : RelationSchema) : Type 0 where
  pub there : relation_named join.relation.name schema ≡ Some other
  pub another : AllByRecursion (λ name. other.name ≢ name) earlier
  pub names : join.relation.columns ≡ names_of other
  pub key : slice_get (kinds_of other) 0 ≡ Some kinds.Int
  pub column : slice_get before join.col ≡ Some kinds.Int

-- joins of the schema, one after another, and the types of all columns
abbrev pub AreJoinsOf : List RelationSchema → List (List ℕ) → List Kind → List Join → List Kind → Type 0
AreJoinsOf schema earlier before [] all = all ≡ before
AreJoinsOf schema earlier before (join ∷ joins) all =
    (other : RelationSchema) × IsJoinOf schema earlier before join other × AreJoinsOf schema (earlier ++ other.name ∷ []) (before ++ kinds_of other) joins all

-- A SELECT of the schema: its relation is there under its name, with its columns' names, and so are the joined
-- ones, at most two; the listed columns are theirs, and so are those of the conditions, which fit them.
pub record IsSelectOf (schema : List RelationSchema) (select : Select) : Type 0 where
  pub relation : RelationSchema
  pub types : List Kind
  pub there : relation_named select.from.name schema ≡ Some relation
  pub names : select.from.columns ≡ names_of relation
  pub few_joins : length select.joins ≤ 2
  pub joins : AreJoinsOf schema (relation.name ∷ []) (kinds_of relation) select.joins types
  pub few_columns : length select.columns ≤ 32
  pub columns : AllByRecursion (λ column. column < length types) select.columns
  pub few_conds : length select.conds ≤ 8
  pub conds : AllByRecursion (IsCondOf types) select.conds

-- an INSERT of the schema: its relation is there, and its row fits the relation's columns
pub record IsInsertOf (schema : List RelationSchema) (insert : Insert) : Type 0 where
  pub relation : RelationSchema
  pub there : relation_named insert.into schema ≡ Some relation
  pub fits : FitsKinds (kinds_of relation) insert.row

-- what a column of a type may be set to: a constant of the type, or an integer column and a number
abbrev pub IsAssignable : List Kind → Kind → Assigned → Type 0
IsAssignable columns kind (assigned.Constant value) = (kind_of value ≡ kind) × Fits value
IsAssignable columns kind (assigned.Sum col number) =
    (kind ≡ kinds.Int) × (slice_get columns col ≡ Some kinds.Int) × (neg_ℤ (pos 9223372036854775807) ≤ℤ number) × (number ≤ℤ pos 9223372036854775807)

-- an assignment to a column that is not the key
pub record IsAssignmentOf (kinds : List Kind) (assignment : Assignment) : Type 0 where
  pub kind : Kind
  pub not_key : assignment.col ≢ 0
  pub column : slice_get kinds assignment.col ≡ Some kind
  pub value : IsAssignable kinds kind assignment.value

-- no two assignments are to one column
abbrev pub AreApart : List Assignment → Type 0
AreApart [] = Unit {0}
AreApart (first ∷ others) = AllByRecursion (λ other. first.col ≢ other.col) others × AreApart others

pub record IsUpdateOf (schema : List RelationSchema) (update : Update) : Type 0 where
  pub relation : RelationSchema
  pub there : relation_named update.relation.name schema ≡ Some relation
  pub names : update.relation.columns ≡ names_of relation
  pub some_set : update.sets ≢ []
  pub apart : AreApart update.sets
  pub sets : AllByRecursion (IsAssignmentOf (kinds_of relation)) update.sets
  pub few_conds : length update.conds ≤ 8
  pub conds : AllByRecursion (IsCondOf (kinds_of relation)) update.conds

pub record IsDeleteOf (schema : List RelationSchema) (delete : Delete) : Type 0 where
  pub relation : RelationSchema
  pub there : relation_named delete.relation.name schema ≡ Some relation
  pub names : delete.relation.columns ≡ names_of relation
  pub few_conds : length delete.conds ≤ 8
  pub conds : AllByRecursion (IsCondOf (kinds_of relation)) delete.conds

-- a REFRAGMENT of the schema: its relation is there under its name, with its columns' names
pub record IsRefragmentOf (schema : List RelationSchema) (refragment : Refragment) : Type 0 where
  pub relation : RelationSchema
  pub there : relation_named refragment.relation.name schema ≡ Some relation
  pub names : refragment.relation.columns ≡ names_of relation

-- whether a statement is a REFRAGMENT
abbrev pub is_refragment : Statement → Bool
is_refragment (statement.Refragment refragment) = true
is_refragment other = false

-- a statement of the schema
abbrev pub IsStatementOf : List RelationSchema → Statement → Type 0
IsStatementOf schema (statement.Select select) = IsSelectOf schema select
IsStatementOf schema (statement.Insert insert) = IsInsertOf schema insert
IsStatementOf schema (statement.Update update) = IsUpdateOf schema update
IsStatementOf schema (statement.Delete delete) = IsDeleteOf schema delete
IsStatementOf schema (statement.Refragment refragment) = IsRefragmentOf schema refragment
