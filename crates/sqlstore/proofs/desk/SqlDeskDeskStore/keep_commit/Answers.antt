use Rattle.std.proofs.Common.{arith}
use Rattle.sqlite.specs.Held.{state}
use Rattle.sqlstore.proofs.Decisions.{decides, decides_stored}
use Rattle.sqlstore.proofs.desk.SqlDeskDeskStore.keep_commit.Goals as goal

pub returns-in-Ok-clause-leaves : goal.returns-in-Ok-clause-leaves
returns-in-Ok-clause-leaves g c =
    let old = (state g.S.Store c.args.self.now.conn).committed in
    let new = (state g.S.Store c.decide.new.conn).committed in
    let ensured = c.in-Ok.ensures in
    let is = rw c.in-Ok-Some.field-0-is at c.in-Ok-Some.ensures in
    record {
      clean = λ now. (ensured.outside.clean now.0, ensured.outside.was_open now.0 now.1);
      counts = omega arith;
      sound = λ now stored. decides_stored c.args.txn c.args.voters.now c.args.version c.in-Ok-Some.decision is old new (c.schema-live.ensures.live (ensured.outside.was_open now.0 now.1)).1 stored (ensured.done now.0 stored.tables);
    }

pub returns-in-Ok-clause-ok : goal.returns-in-Ok-clause-ok
returns-in-Ok-clause-ok g c now stored none distinct =
    let old = (state g.S.Store c.args.self.now.conn).committed in
    let new = (state g.S.Store c.decide.new.conn).committed in
    let ensured = c.in-Ok.ensures in
    let is = rw c.in-Ok-Some.field-0-is at c.in-Ok-Some.ensures in
    decides c.args.txn c.args.voters.now c.args.version c.in-Ok-Some.decision is old new (c.schema-live.ensures.live (ensured.outside.was_open now.0 now.1)).1 stored (ensured.done now.0 stored.tables) none
