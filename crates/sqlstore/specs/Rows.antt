-- What statements make of the rows of tables.
use Rattle.std.specs.Prelude.{◌≡◌, ◌≢◌, ◌⊎◌, ℕ, Bool, true, false, List, drop}
use Rattle.sqlite.specs.Effect.{Database, IsDatabase}
use Rattle.sqlite.specs.Order.{Row}
use Rattle.sqlite.specs.Schema.{Schema}
use Rattle.sqlite.specs.Table.{Table}
use Rattle.sqlite.specs.Tree.{rowid}
use Rattle.sqlite.specs.View.{is_int}
use Rattle.sqlite_rules.specs.Lists.{Has}
use Rattle.sqlstore.specs.Tables.{site_schema}

-- each row has a number, and no other row has it
pub record AreKeyed (rows : List Row) : Type 0 where
  pub ints : (row : Row) → Has rows row → is_int (rowid row) ≡ true
  pub apart : (one other : Row) → Has rows one → Has rows other → rowid one ≡ rowid other → one ≡ other

-- the schema is this
abbrev pub HasSchema : Schema → Database → Type 0
HasSchema own db = db.schema ≡ own

-- the tables are those of a store, and the rows of each are numbered
pub record AreTablesOf (own : Schema) (db : Database) : Type 0 where
  pub schema : db.schema ≡ own
  pub keyed : (table : Table) → Has own.tables table → AreKeyed (db.trees table.tree)

-- the tables are a site's
abbrev pub AreTables : Database → Type 0
AreTables = AreTablesOf site_schema

-- the rows that pass are gone, and no others
pub record Loses (test : Row → Bool) (old new : List Row) : Type 0 where
  pub gone : (row : Row) → Has new row → Has old row × (test row ≡ false)
  pub left : (row : Row) → Has old row → test row ≡ false → Has new row

-- there is a row more for each of these cells, and no others
pub record Gains (Cells : Row → Type 0) (old new : List Row) : Type 0 where
  pub kept : (row : Row) → Has old row → Has new row
  pub made : (cells : Row) → Cells cells → (row : Row) × Has new row × (drop 1 row ≡ cells)
  pub only : (row : Row) → Has new row → Has old row ⊎ Cells (drop 1 row)

-- a query shows each row that passes, and no others
pub record Finds (show : Row → Row) (test : Row → Bool) (rows found : List Row) : Type 0 where
  pub sound : (it : Row) → Has found it → (row : Row) × Has rows row × (test row ≡ true) × (it ≡ show row)
  pub all : (row : Row) → Has rows row → test row ≡ true → Has found (show row)

-- a statement changes the rows of one table so, and no others
pub record RewritesOf (own : Schema) (tree : ℕ) (Changes : List Row → List Row → Type 0) (old new : Database) : Type 0 where
  pub tables : AreTablesOf own new
  pub sound : IsDatabase new
  pub rows : Changes (old.trees tree) (new.trees tree)
  pub others : (table : Table) → Has own.tables table → table.tree ≢ tree → new.trees table.tree ≡ old.trees table.tree

-- so of a site's tables
abbrev pub Rewrites : ℕ → (List Row → List Row → Type 0) → Database → Database → Type 0
Rewrites = RewritesOf site_schema
