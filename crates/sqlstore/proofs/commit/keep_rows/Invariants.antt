use Rattle.std.proofs.Common.{ℕ, take}
use Rattle.sqlstore.specs.Frame.{RunsWithin}
use Rattle.sqlstore.specs.DeskStep.{Decides}
use Rattle.sqlstore.specs.DeskTables.{desk_schema}
use Rattle.sqlstore.specs.Rows.{AreTablesOf}
use Rattle.sqlstore.proofs.Composed.{good}
use Rattle.sqlstore.proofs.commit.keep_rows.Given as goal

abbrev pub invariant-votes : goal.invariant-votes
invariant-votes g l = RunsWithin {A = ℕ} g.S.Store (AreTablesOf desk_schema) (Decides l.decision.txn (take l.kept-index l.votes) l.life l.decision.version) l.fn.tx.conn l.tx.conn (good 0)
