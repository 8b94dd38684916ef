-- New stores of the coordinator.
use Rattle.std.specs.Prelude.{◌≡◌, ◌⊎◌, [], None}
use Rattle.sqlite.specs.Change.{created}
use Rattle.sqlite.specs.Effect.{Database}
use Rattle.sqlite.specs.Schema.{Schema}
use Rattle.store.specs.declared.name.Txn.{Txn}
use Rattle.store.specs.DeskContent.{DeskContent}
use Rattle.sqlstore.specs.DeskTables.{decided_table, epoch_table, desk_schema}
use Rattle.sqlstore.specs.Fresh.{MakesTable}
use Rattle.sqlstore.specs.Step.{Follows}
use Rattle.sqlstore.specs.Tables.{no_schema}

-- the tables are the coordinator's, and no row is in them
pub record IsFresh (db : Database) : Type 0 where
  pub schema : db.schema ≡ desk_schema
  pub votes : db.trees 0 ≡ []
  pub epoch : db.trees 2 ≡ []

-- the schema of the first table alone
abbrev pub first_schema : Schema
first_schema = created no_schema decided_table

-- both tables are made
abbrev pub MakesBoth : Database → Database → Type 0
MakesBoth = Follows (MakesTable no_schema decided_table) (MakesTable first_schema epoch_table)

-- what is found of a coordinator is as it was, in a coordinator's tables, or new tables are made, where there was nothing
abbrev pub FoundsDesk : Database → Database → Type 0
FoundsDesk old new = ((new ≡ old) × (old.schema ≡ desk_schema)) ⊎ ((old.schema ≡ no_schema) × IsFresh new)

-- no transaction has a commit row, no incarnation has begun, and the catalogue has its first version
pub record KeepsNoCommit (kept : DeskContent) : Type 0 where
  pub commits : (txn : Txn) → kept.commits txn ≡ None
  pub life : kept.life ≡ 0
  pub version : kept.version ≡ 1
