use Rattle.std.proofs.Common.{not, ap, ◌∙◌, rules}
use Rattle.sqlite.specs.Held.{state}
use Rattle.sqlstore.specs.DeskStep.{Undecides}
use Rattle.sqlstore.specs.DeskTables.{desk_schema}
use Rattle.sqlstore.specs.Frame.{RunsWithin}
use Rattle.sqlstore.specs.Rows.{AreTablesOf}
use Rattle.sqlstore.proofs.DeskStepping.{undecides}
use Rattle.sqlstore.proofs.Framing.{commits, commits_nothing}
use Rattle.sqlstore.proofs.commit.undecide.Goals as goal

pub returns : goal.returns
returns g c =
    let ran : RunsWithin g.S.Store (AreTablesOf desk_schema) (Undecides c.args.txn.now) c.transaction-tx.result.conn c.execute.new.self.conn c.execute.result = record {
      same_reference = c.execute.ensures.same_reference;
      does = λ clean inside. undecides c.args.txn.now (state g.S.Store c.transaction-tx.result.conn.now) (state g.S.Store c.execute.new.self.conn.now) c.execute.result (rw (c.number.ensures, c.number-2.ensures) at (c.execute.ensures.runs clean inside));
      survives = c.execute.ensures.survives;
    } in
    let made = commits g.S.Store c.args.conn.now c.transaction-tx.result.conn c.execute.new.self.conn (c.is_autocommit-settled.ensures.settled (c.is_autocommit-settled.ensures.value ∙ ap not c.requires)) c.transaction-tx.ensures.begun
    (Undecides c.args.txn.now) c.in_ok-execute.field-0 (rw c.in_ok-execute.was at ran) c.commit.new.self.0 c.commit.result c.commit.ensures.ended c.commit.ensures.ok c.commit.ensures.err c.commit.ensures.survives in
    search (rules, made)

pub returns-in_err-execute : goal.returns-in_err-execute
returns-in_err-execute g c =
    let ran : RunsWithin g.S.Store (AreTablesOf desk_schema) (Undecides c.args.txn.now) c.transaction-tx.result.conn c.execute.new.self.conn c.execute.result = record {
      same_reference = c.execute.ensures.same_reference;
      does = λ clean inside. undecides c.args.txn.now (state g.S.Store c.transaction-tx.result.conn.now) (state g.S.Store c.execute.new.self.conn.now) c.execute.result (rw (c.number.ensures, c.number-2.ensures) at (c.execute.ensures.runs clean inside));
      survives = c.execute.ensures.survives;
    } in
    let made = commits_nothing g.S.Store c.args.conn.now c.transaction-tx.result.conn c.execute.new.self.conn (c.is_autocommit-settled.ensures.settled (c.is_autocommit-settled.ensures.value ∙ ap not c.requires)) c.transaction-tx.ensures.begun
    (Undecides c.args.txn.now) c.in_err-execute.field-0.0 (rw c.in_err-execute.was at ran) c.drop-tx.new.self.0 c.drop-tx.ensures.ended c.drop-tx.ensures.undone c.drop-tx.ensures.survives {own = desk_schema} (Undecides c.args.txn.now) c.from_residual.result c.from_residual.ensures.0 in
    search (rules, made)
