use Rattle.std.proofs.Common.{arith}
use Rattle.sqlite.specs.Held.{state}
use Rattle.sqlstore.proofs.Decisions.{StandsFor, drops, drops_stored}
use Rattle.sqlstore.proofs.desk.SqlDeskDeskStore.drop_commit.Goals as goal

pub returns-in-Ok-clause-leaves : goal.returns-in-Ok-clause-leaves
returns-in-Ok-clause-leaves g c =
    let old = (state g.S.Store c.args.self.now.conn).committed in
    let new = (state g.S.Store c.undecide.new.conn).committed in
    let ensured = c.in-Ok.ensures in
    let stands : StandsFor c.in-Some.numbers c.args.txn = record { life = c.in-Some.ensures.0; number = c.in-Some.ensures.1 } in
    record {
      clean = λ now. (ensured.outside.clean now.0, ensured.outside.was_open now.0 now.1);
      counts = omega arith;
      sound = λ now stored. drops_stored c.args.txn c.in-Some.numbers stands old new (c.schema-live.ensures.live (ensured.outside.was_open now.0 now.1)).1 stored.tables (ensured.done now.0 stored.tables) stored;
    }

pub returns-in-Ok-clause-ok : goal.returns-in-Ok-clause-ok
returns-in-Ok-clause-ok g c now stored =
    let old = (state g.S.Store c.args.self.now.conn).committed in
    let new = (state g.S.Store c.undecide.new.conn).committed in
    let ensured = c.in-Ok.ensures in
    let stands : StandsFor c.in-Some.numbers c.args.txn = record { life = c.in-Some.ensures.0; number = c.in-Some.ensures.1 } in
    drops c.args.txn c.in-Some.numbers stands old new (c.schema-live.ensures.live (ensured.outside.was_open now.0 now.1)).1 stored.tables (ensured.done now.0 stored.tables)
