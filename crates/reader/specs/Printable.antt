-- Statements that are read again as they are printed.
use Rattle.std.specs.Prelude.{◌≢◌, ℕ, ◌≤◌, List, [], ◌∷◌, length, map}
use Rattle.std.specs.List.{AllByRecursion}
use Rattle.terms.specs.declared.cond.Cond.{Cond}
use Rattle.terms.specs.Cond.{IsCondOf}
use Rattle.meaning.specs.declared.schema.Column.{Column}
use Rattle.meaning.specs.declared.schema.RelationSchema.{RelationSchema}
use Rattle.meaning.specs.declared.statement.Statement.{Statement}
use Rattle.meaning.specs.declared.statement.Statement.TheVariants as statements
use Rattle.meaning.specs.Schema.{names_of}
use Rattle.meaning.specs.Statement.{IsStatementOf}
use Rattle.reader.specs.declared.command.Command.{Command}
use Rattle.reader.specs.declared.command.Command.TheVariants.{Run, Begin, Commit, Rollback}
use Rattle.reader.specs.Command.{IsTextOf}
use Rattle.reader.specs.Conds.{AreCondsOf}
use Rattle.reader.specs.PrintStatement.{statement_bytes, conds_bytes}
use Rattle.reader.specs.Scope.{types}
use Rattle.reader.specs.Tokens.{IsName}

-- no two of these names are the same
abbrev pub AreDistinct : List (List ℕ) → Type 0
AreDistinct [] = Unit {0}
AreDistinct (first ∷ others) = AllByRecursion (λ other. first ≢ other) others × AreDistinct others

-- a relation that a text can speak of: it has a name, at least one column, and for each column a name of its own
pub record IsNamed (relation : RelationSchema) : Type 0 where
  pub name : IsName relation.name
  pub filled : relation.columns ≢ []
  pub columns : AllByRecursion IsName (names_of relation)
  pub distinct : AreDistinct (names_of relation)

-- a schema of such relations
abbrev pub AreNamed : List RelationSchema → Type 0
AreNamed schema = AllByRecursion IsNamed schema

-- a SELECT lists some column
abbrev pub ListsSome : Statement → Type 0
ListsSome (statements.Select select) = select.columns ≢ []
ListsSome (statements.Insert insert) = Unit {0}
ListsSome (statements.Update update) = Unit {0}
ListsSome (statements.Delete delete) = Unit {0}
ListsSome (statements.Refragment refragment) = Unit {0}

-- a statement of a schema that is read again as it is printed
pub record IsPrintable (schema : List RelationSchema) (statement : Statement) : Type 0 where
  pub named : AreNamed schema
  pub fits : IsStatementOf schema statement
  pub lists : ListsSome statement

-- the law: what a printable statement is printed as is a text of it, where it is short enough
abbrev pub PrintedIsRead : Type 0
PrintedIsRead = (schema : List RelationSchema) (statement : Statement) → IsPrintable schema statement →
    length (statement_bytes statement) ≤ 4096 → IsTextOf schema (statement_bytes statement) (Run statement)

-- the statement of a command is printable, if the command runs one
abbrev pub IsPrintableCommand : List RelationSchema → Command → Type 0
IsPrintableCommand schema (Run statement) = IsPrintable schema statement
IsPrintableCommand schema Begin = Unit {0}
IsPrintableCommand schema Commit = Unit {0}
IsPrintableCommand schema Rollback = Unit {0}

-- the names of columns
abbrev pub column_names : List Column → List (List ℕ)
column_names columns = map (λ column. column.name) columns

-- the law for conditions alone: what at most 8 conditions that fit the columns, and at least one, are printed as
-- is a text of them, where it is short enough, and each column has a name of its own
abbrev pub PrintedCondsAreRead : Type 0
PrintedCondsAreRead = (columns : List Column) (conds : List Cond) → AllByRecursion IsName (column_names columns) → AreDistinct (column_names columns) →
    conds ≢ [] → length conds ≤ 8 → AllByRecursion (IsCondOf (types columns)) conds →
    length (conds_bytes (column_names columns) conds) ≤ 4096 → AreCondsOf columns (conds_bytes (column_names columns) conds) conds
