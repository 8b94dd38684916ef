use Rattle.sqlite.specs.Held.{state}
use Rattle.sqlstore.specs.DeskStep.{EndsEpoch, StartsEpoch, MovesTo}
use Rattle.sqlstore.specs.DeskTables.{desk_schema}
use Rattle.sqlstore.specs.Frame.{RunsWithin}
use Rattle.sqlstore.specs.Rows.{AreTablesOf}
use Rattle.sqlstore.proofs.DeskStepping.{ends_epoch, starts_epoch}
use Rattle.sqlstore.proofs.Framing.{runs_then, runs_err}
use Rattle.sqlstore.proofs.epoch.move_to.Goals as goal

pub returns : goal.returns
returns g c =
    let ends : RunsWithin g.S.Store (AreTablesOf desk_schema) EndsEpoch c.args.tx.now.conn c.execute.new.self.conn c.execute.result = record {
      same_reference = c.execute.ensures.same_reference;
      does = λ clean inside. ends_epoch (state g.S.Store c.args.tx.now.conn.now) (state g.S.Store c.execute.new.self.conn.now) c.execute.result (c.execute.ensures.runs clean inside);
      survives = c.execute.ensures.survives;
    } in
    let starts : RunsWithin g.S.Store (AreTablesOf desk_schema) (StartsEpoch c.args.life.now c.args.version.now) c.execute.new.self.conn c.execute-2.new.self.conn c.execute-2.result = record {
      same_reference = c.execute-2.ensures.same_reference;
      does = λ clean inside. starts_epoch c.args.life.now c.args.version.now (state g.S.Store c.execute.new.self.conn.now) (state g.S.Store c.execute-2.new.self.conn.now) c.execute-2.result (rw (c.number.ensures, c.number-2.ensures) at (c.execute-2.ensures.runs clean inside));
      survives = c.execute-2.ensures.survives;
    } in
    runs_then g.S.Store EndsEpoch (StartsEpoch c.args.life.now c.args.version.now) c.args.tx.now.conn c.execute.new.self.conn c.execute-2.new.self.conn c.in_ok-execute.field-0 c.execute-2.result (λ p. p.tables) (rw c.in_ok-execute.was at ends) starts

pub returns-in_err-execute : goal.returns-in_err-execute
returns-in_err-execute g c =
    let ends : RunsWithin g.S.Store (AreTablesOf desk_schema) EndsEpoch c.args.tx.now.conn c.execute.new.self.conn c.execute.result = record {
      same_reference = c.execute.ensures.same_reference;
      does = λ clean inside. ends_epoch (state g.S.Store c.args.tx.now.conn.now) (state g.S.Store c.execute.new.self.conn.now) c.execute.result (c.execute.ensures.runs clean inside);
      survives = c.execute.ensures.survives;
    } in
    runs_err g.S.Store EndsEpoch (MovesTo c.args.life.now c.args.version.now) c.args.tx.now.conn c.execute.new.self.conn _ c.from_residual.result c.from_residual.ensures.0 (rw c.in_err-execute.was at ends)
