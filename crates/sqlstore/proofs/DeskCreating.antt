-- The tables of the coordinator are made.
use Rattle.std.proofs.Common.{ℕ, [], Result, refl, ◌∙◌}
use Rattle.sqlite.specs.Effect.{Database}
use Rattle.sqlite.specs.Listing.{understood}
use Rattle.sqlite.specs.State.{State, ExecutesInside}
use Rattle.sqlite.specs.declared.error.Error.{Error}
use Rattle.sqlite_tied.specs.Compute.{everything}
use Rattle.sqlstore.specs.DeskFresh.{IsFresh, MakesBoth, first_schema}
use Rattle.sqlstore.specs.DeskTables.{decided_table, epoch_table, create_decided, create_epoch}
use Rattle.sqlstore.specs.Fresh.{Builds, MakesTable}
use Rattle.sqlstore.specs.Tables.{no_schema}
use Rattle.sqlstore.proofs.Creating.{creates}
use Rattle.sqlstore.proofs.Stepping.{steps_by}

pub builds_decided : (old new : State) (result : Result ℕ Error) → ExecutesInside 0 create_decided [] old new result → Builds no_schema (MakesTable no_schema decided_table) old new result
unfolding understood everything
builds_decided old new result = steps_by (MakesTable no_schema decided_table) create_decided [] old new result (creates create_decided no_schema decided_table refl refl refl (refl, refl) refl old new)

pub builds_epoch : (old new : State) (result : Result ℕ Error) → ExecutesInside 0 create_epoch [] old new result → Builds first_schema (MakesTable first_schema epoch_table) old new result
unfolding understood everything
builds_epoch old new result = steps_by (MakesTable first_schema epoch_table) create_epoch [] old new result (creates create_epoch first_schema epoch_table refl refl refl (refl, refl) refl old new)

pub makes_both : (old new : Database) → MakesBoth old new → IsFresh new
makes_both old new both = record { schema = both.2.schema; votes = both.2.kept.0 ∙ both.1.empty; epoch = both.2.empty }
