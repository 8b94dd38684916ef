use Rattle.std.proofs.Common.{ℕ, take}
use Rattle.sqlstore.specs.Frame.{RunsWithin}
use Rattle.sqlstore.specs.Rows.{AreTables}
use Rattle.sqlstore.specs.Step.{Empties}
use Rattle.sqlstore.proofs.Composed.{good}
use Rattle.sqlstore.proofs.calls.empty.Given as goal

abbrev pub invariant-slots : goal.invariant-slots
invariant-slots g l = RunsWithin {A = ℕ} g.S.Store AreTables (Empties l.visit (take l.slot-index l.slots)) l.fn.tx.conn l.tx.conn (good 0)
