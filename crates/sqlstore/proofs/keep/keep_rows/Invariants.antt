use Rattle.std.proofs.Common.{ℕ, take}
use Rattle.sqlstore.specs.Frame.{RunsWithin}
use Rattle.sqlstore.specs.Rows.{AreTables}
use Rattle.sqlstore.specs.Step.{Keeps}
use Rattle.sqlstore.proofs.Composed.{good}
use Rattle.sqlstore.proofs.keep.keep_rows.Given as goal

abbrev pub invariant-intents : goal.invariant-intents
invariant-intents g l = RunsWithin {A = ℕ} g.S.Store AreTables (Keeps l.visit l.txn (take l.intent-index l.intents)) l.fn.tx.conn l.tx.conn (good 0)
