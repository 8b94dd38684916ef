use Rattle.sqlite.specs.Held.{state}
use Rattle.sqlstore.specs.DeskFresh.{MakesBoth, first_schema}
use Rattle.sqlstore.specs.DeskTables.{decided_table, epoch_table}
use Rattle.sqlstore.specs.Frame.{RunsWithin}
use Rattle.sqlstore.specs.Fresh.{MakesTable}
use Rattle.sqlstore.specs.Rows.{HasSchema}
use Rattle.sqlstore.specs.Tables.{no_schema}
use Rattle.sqlstore.proofs.DeskCreating.{builds_decided, builds_epoch}
use Rattle.sqlstore.proofs.Framing.{runs_then, runs_err}
use Rattle.sqlstore.proofs.desk_tables.make_both.Goals as goal

pub returns : goal.returns
returns g c =
    let decided : RunsWithin g.S.Store (HasSchema no_schema) (MakesTable no_schema decided_table) c.args.tx.now.conn c.execute.new.self.conn c.execute.result = record {
      same_reference = c.execute.ensures.same_reference;
      does = λ clean inside. builds_decided (state g.S.Store c.args.tx.now.conn.now) (state g.S.Store c.execute.new.self.conn.now) c.execute.result (c.execute.ensures.runs clean inside);
      survives = c.execute.ensures.survives;
    } in
    let epoch : RunsWithin g.S.Store (HasSchema first_schema) (MakesTable first_schema epoch_table) c.execute.new.self.conn c.execute-2.new.self.conn c.execute-2.result = record {
      same_reference = c.execute-2.ensures.same_reference;
      does = λ clean inside. builds_epoch (state g.S.Store c.execute.new.self.conn.now) (state g.S.Store c.execute-2.new.self.conn.now) c.execute-2.result (c.execute-2.ensures.runs clean inside);
      survives = c.execute-2.ensures.survives;
    } in
    runs_then g.S.Store (MakesTable no_schema decided_table) (MakesTable first_schema epoch_table) c.args.tx.now.conn c.execute.new.self.conn c.execute-2.new.self.conn c.in_ok-execute.field-0 c.execute-2.result (λ p. p.schema) (rw c.in_ok-execute.was at decided) epoch

pub returns-in_err-execute : goal.returns-in_err-execute
returns-in_err-execute g c =
    let decided : RunsWithin g.S.Store (HasSchema no_schema) (MakesTable no_schema decided_table) c.args.tx.now.conn c.execute.new.self.conn c.execute.result = record {
      same_reference = c.execute.ensures.same_reference;
      does = λ clean inside. builds_decided (state g.S.Store c.args.tx.now.conn.now) (state g.S.Store c.execute.new.self.conn.now) c.execute.result (c.execute.ensures.runs clean inside);
      survives = c.execute.ensures.survives;
    } in
    runs_err g.S.Store (MakesTable no_schema decided_table) MakesBoth c.args.tx.now.conn c.execute.new.self.conn _ c.from_residual.result c.from_residual.ensures.0 (rw c.in_err-execute.was at decided)
