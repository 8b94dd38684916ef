use Rattle.std.proofs.Common.{Ok}
use Rattle.sqlite.specs.Held.{state}
use Rattle.sqlstore.specs.Frame.{RunsWithin}
use Rattle.sqlstore.specs.Fresh.{MakesAll, MakesFirst, MakesOthers, MakesTable, one_table, two_tables, three_tables}
use Rattle.sqlstore.specs.Rows.{HasSchema}
use Rattle.sqlstore.specs.Tables.{no_schema, part_table, prepared_table, intent_table, state_table}
use Rattle.sqlstore.proofs.Creating.{builds_part, builds_prepared, builds_intent, builds_state}
use Rattle.sqlstore.proofs.Framing.{runs_then, runs_err, runs_short}
use Rattle.sqlstore.proofs.tables.make_all.Goals as goal

pub returns : goal.returns
returns g c =
    let part : RunsWithin g.S.Store (HasSchema no_schema) (MakesTable no_schema part_table) c.args.tx.now.conn c.execute.new.self.conn c.execute.result = record {
      same_reference = c.execute.ensures.same_reference;
      does = λ clean inside. builds_part (state g.S.Store c.args.tx.now.conn.now) (state g.S.Store c.execute.new.self.conn.now) c.execute.result (c.execute.ensures.runs clean inside);
      survives = c.execute.ensures.survives;
    } in
    let prepared : RunsWithin g.S.Store (HasSchema one_table) (MakesTable one_table prepared_table) c.execute.new.self.conn c.execute-2.new.self.conn c.execute-2.result = record {
      same_reference = c.execute-2.ensures.same_reference;
      does = λ clean inside. builds_prepared (state g.S.Store c.execute.new.self.conn.now) (state g.S.Store c.execute-2.new.self.conn.now) c.execute-2.result (c.execute-2.ensures.runs clean inside);
      survives = c.execute-2.ensures.survives;
    } in
    let intent : RunsWithin g.S.Store (HasSchema two_tables) (MakesTable two_tables intent_table) c.execute-2.new.self.conn c.execute-3.new.self.conn c.execute-3.result = record {
      same_reference = c.execute-3.ensures.same_reference;
      does = λ clean inside. builds_intent (state g.S.Store c.execute-2.new.self.conn.now) (state g.S.Store c.execute-3.new.self.conn.now) c.execute-3.result (c.execute-3.ensures.runs clean inside);
      survives = c.execute-3.ensures.survives;
    } in
    let state_made : RunsWithin g.S.Store (HasSchema three_tables) (MakesTable three_tables state_table) c.execute-3.new.self.conn c.execute-4.new.self.conn c.execute-4.result = record {
      same_reference = c.execute-4.ensures.same_reference;
      does = λ clean inside. builds_state (state g.S.Store c.execute-3.new.self.conn.now) (state g.S.Store c.execute-4.new.self.conn.now) c.execute-4.result (c.execute-4.ensures.runs clean inside);
      survives = c.execute-4.ensures.survives;
    } in
    let first = runs_then g.S.Store (MakesTable no_schema part_table) (MakesTable one_table prepared_table) c.args.tx.now.conn c.execute.new.self.conn c.execute-2.new.self.conn c.in_ok-execute.field-0 (Ok c.in_ok-execute-2.field-0) (λ p. p.schema) (rw c.in_ok-execute.was at part) (rw c.in_ok-execute-2.was at prepared) in
    let others = runs_then g.S.Store (MakesTable two_tables intent_table) (MakesTable three_tables state_table) c.execute-2.new.self.conn c.execute-3.new.self.conn c.execute-4.new.self.conn c.in_ok-execute-3.field-0 c.execute-4.result (λ p. p.schema) (rw c.in_ok-execute-3.was at intent) state_made in
    runs_then g.S.Store MakesFirst MakesOthers c.args.tx.now.conn c.execute-2.new.self.conn c.execute-4.new.self.conn c.in_ok-execute-2.field-0 c.execute-4.result (λ p. p.2.schema) first others

pub returns-in_err-execute : goal.returns-in_err-execute
returns-in_err-execute g c =
    let part : RunsWithin g.S.Store (HasSchema no_schema) (MakesTable no_schema part_table) c.args.tx.now.conn c.execute.new.self.conn c.execute.result = record {
      same_reference = c.execute.ensures.same_reference;
      does = λ clean inside. builds_part (state g.S.Store c.args.tx.now.conn.now) (state g.S.Store c.execute.new.self.conn.now) c.execute.result (c.execute.ensures.runs clean inside);
      survives = c.execute.ensures.survives;
    } in
    runs_err g.S.Store (MakesTable no_schema part_table) MakesAll c.args.tx.now.conn c.execute.new.self.conn _ c.from_residual.result c.from_residual.ensures.0 (rw c.in_err-execute.was at part)

pub returns-in_err-execute-2 : goal.returns-in_err-execute-2
returns-in_err-execute-2 g c =
    let part : RunsWithin g.S.Store (HasSchema no_schema) (MakesTable no_schema part_table) c.args.tx.now.conn c.execute.new.self.conn c.execute.result = record {
      same_reference = c.execute.ensures.same_reference;
      does = λ clean inside. builds_part (state g.S.Store c.args.tx.now.conn.now) (state g.S.Store c.execute.new.self.conn.now) c.execute.result (c.execute.ensures.runs clean inside);
      survives = c.execute.ensures.survives;
    } in
    let prepared : RunsWithin g.S.Store (HasSchema one_table) (MakesTable one_table prepared_table) c.execute.new.self.conn c.execute-2.new.self.conn c.execute-2.result = record {
      same_reference = c.execute-2.ensures.same_reference;
      does = λ clean inside. builds_prepared (state g.S.Store c.execute.new.self.conn.now) (state g.S.Store c.execute-2.new.self.conn.now) c.execute-2.result (c.execute-2.ensures.runs clean inside);
      survives = c.execute-2.ensures.survives;
    } in
    runs_short g.S.Store (MakesTable no_schema part_table) (MakesTable one_table prepared_table) MakesAll c.args.tx.now.conn c.execute.new.self.conn c.execute-2.new.self.conn c.in_ok-execute.field-0 _ c.from_residual-in_err-execute-2.result c.from_residual-in_err-execute-2.ensures.0 (rw c.in_ok-execute.was at part) (rw c.in_err-execute-2.was at prepared)

pub returns-in_err-execute-3 : goal.returns-in_err-execute-3
returns-in_err-execute-3 g c =
    let part : RunsWithin g.S.Store (HasSchema no_schema) (MakesTable no_schema part_table) c.args.tx.now.conn c.execute.new.self.conn c.execute.result = record {
      same_reference = c.execute.ensures.same_reference;
      does = λ clean inside. builds_part (state g.S.Store c.args.tx.now.conn.now) (state g.S.Store c.execute.new.self.conn.now) c.execute.result (c.execute.ensures.runs clean inside);
      survives = c.execute.ensures.survives;
    } in
    let prepared : RunsWithin g.S.Store (HasSchema one_table) (MakesTable one_table prepared_table) c.execute.new.self.conn c.execute-2.new.self.conn c.execute-2.result = record {
      same_reference = c.execute-2.ensures.same_reference;
      does = λ clean inside. builds_prepared (state g.S.Store c.execute.new.self.conn.now) (state g.S.Store c.execute-2.new.self.conn.now) c.execute-2.result (c.execute-2.ensures.runs clean inside);
      survives = c.execute-2.ensures.survives;
    } in
    let intent : RunsWithin g.S.Store (HasSchema two_tables) (MakesTable two_tables intent_table) c.execute-2.new.self.conn c.execute-3.new.self.conn c.execute-3.result = record {
      same_reference = c.execute-3.ensures.same_reference;
      does = λ clean inside. builds_intent (state g.S.Store c.execute-2.new.self.conn.now) (state g.S.Store c.execute-3.new.self.conn.now) c.execute-3.result (c.execute-3.ensures.runs clean inside);
      survives = c.execute-3.ensures.survives;
    } in
    let first = runs_then g.S.Store (MakesTable no_schema part_table) (MakesTable one_table prepared_table) c.args.tx.now.conn c.execute.new.self.conn c.execute-2.new.self.conn c.in_ok-execute.field-0 (Ok c.in_ok-execute-2.field-0) (λ p. p.schema) (rw c.in_ok-execute.was at part) (rw c.in_ok-execute-2.was at prepared) in
    runs_short g.S.Store MakesFirst (MakesTable two_tables intent_table) MakesAll c.args.tx.now.conn c.execute-2.new.self.conn c.execute-3.new.self.conn c.in_ok-execute-2.field-0 _ c.from_residual-in_err-execute-3.result c.from_residual-in_err-execute-3.ensures.0 first (rw c.in_err-execute-3.was at intent)
