-- New stores.
use Rattle.std.specs.Prelude.{◌≡◌, ◌⊎◌, [], None, Result, IsTrue}
use Rattle.std.specs.FinMap as map
use Rattle.sqlite.specs.Change.{created, next_tree, KeepsRows}
use Rattle.sqlite.specs.Effect.{Database}
use Rattle.sqlite.specs.Schema.{Schema}
use Rattle.sqlite.specs.State.{State}
use Rattle.sqlite.specs.Table.{Table}
use Rattle.sqlite.specs.Tree.{Trees}
use Rattle.sqlite.specs.declared.error.Error.{Error}
use Rattle.store.specs.declared.name.Ticket.{Ticket}
use Rattle.store.specs.SiteContent.{SiteContent}
use Rattle.terms.specs.declared.leaf.Leaf.{Leaf}
use Rattle.sqlstore.specs.Rows.{HasSchema}
use Rattle.sqlstore.specs.Step.{Follows, StepsOn}
use Rattle.sqlstore.specs.Tables.{no_schema, part_table, prepared_table, intent_table, site_schema, state_table}

-- the tables are a site's, and no row is in them
pub record AreFresh (db : Database) : Type 0 where
  pub schema : db.schema ≡ site_schema
  pub parts : db.trees 0 ≡ []
  pub prepared : db.trees 2 ≡ []
  pub intents : db.trees 4 ≡ []
  pub state : db.trees 6 ≡ []

-- the tables of a site as they are made one by one
abbrev pub one_table : Schema
one_table = created no_schema part_table

abbrev pub two_tables : Schema
two_tables = created one_table prepared_table

abbrev pub three_tables : Schema
three_tables = created two_tables intent_table

-- a table is made, and the others keep their rows
pub record MakesTable (before : Schema) (table : Table) (old new : Database) : Type 0 where
  pub schema : new.schema ≡ created before table
  pub empty : new.trees (next_tree before) ≡ []
  pub kept : KeepsRows before.tables old.trees new.trees

-- a statement that, under this schema, has made this of the tables
abbrev pub Builds : {A : Type 0} → Schema → (Database → Database → Type 0) → State → State → Result A Error → Type 0
Builds before P old new result = StepsOn (HasSchema before) P old new result

-- the first two tables, the others, and all
abbrev pub MakesFirst : Database → Database → Type 0
MakesFirst = Follows (MakesTable no_schema part_table) (MakesTable one_table prepared_table)

abbrev pub MakesOthers : Database → Database → Type 0
MakesOthers = Follows (MakesTable two_tables intent_table) (MakesTable three_tables state_table)

abbrev pub MakesAll : Database → Database → Type 0
MakesAll = Follows MakesFirst MakesOthers

-- what a crash leaves is new tables, where there was nothing
abbrev pub MayFoundOf : (Database → Type 0) → State → Trees → Type 0
MayFoundOf Fresh old trees = IsTrue old.is_open → old.committed.schema ≡ no_schema → (new : Database) × Fresh new × (trees ≡ new.trees)

-- so where they are a site's
abbrev pub MayFound : State → Trees → Type 0
MayFound = MayFoundOf AreFresh

-- what is found of a site is as it was, in a site's tables, or new tables are made, where there was nothing
abbrev pub Founds : Database → Database → Type 0
Founds old new = ((new ≡ old) × (old.schema ≡ site_schema)) ⊎ ((old.schema ≡ no_schema) × AreFresh new)

-- nothing is kept, and no incarnation has begun
pub record KeepsNothing (kept : SiteContent) : Type 0 where
  pub content : (leaf : Leaf) → kept.content leaf ≡ map.empty
  pub prepared : (ticket : Ticket) → kept.prepared ticket ≡ None
  pub life : kept.life ≡ 0
