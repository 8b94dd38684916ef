use Rattle.std.proofs.Common.{arith}
use Rattle.sqlite.specs.Held.{state}
use Rattle.sqlstore.proofs.Decisions.{next_begins, next_stored, next_life}
use Rattle.sqlstore.proofs.desk.SqlDeskDeskStore.next_incarnation.Goals as goal

pub returns-in-Ok-Some-clause-leaves : goal.returns-in-Ok-Some-clause-leaves
returns-in-Ok-Some-clause-leaves g c =
    let old = (state g.S.Store c.args.self.now.conn).committed in
    let new = (state g.S.Store c.begin_next.new.conn).committed in
    let ensured = c.in-Ok-Some.ensures in
    record {
      clean = λ now. (ensured.outside.clean now.0, ensured.outside.was_open now.0 now.1);
      counts = omega arith;
      sound = λ now stored. next_stored c.in-Ok-Some.life old new (c.schema-live.ensures.live (ensured.outside.was_open now.0 now.1)).1 stored (rw c.in-Ok-Some.field-0-is at (ensured.done now.0 now.1 stored.tables));
    }

pub returns-in-Ok-Some-clause-ok : goal.returns-in-Ok-Some-clause-ok
returns-in-Ok-Some-clause-ok g c now stored low =
    let old = (state g.S.Store c.args.self.now.conn).committed in
    let new = (state g.S.Store c.begin_next.new.conn).committed in
    let ensured = c.in-Ok-Some.ensures in
    next_begins c.in-Ok-Some.life old new (c.schema-live.ensures.live (ensured.outside.was_open now.0 now.1)).1 stored (rw c.in-Ok-Some.field-0-is at (ensured.done now.0 now.1 stored.tables))

pub returns-in-Ok-Some-clause-life : goal.returns-in-Ok-Some-clause-life
returns-in-Ok-Some-clause-life g c now stored =
    let old = (state g.S.Store c.args.self.now.conn).committed in
    let new = (state g.S.Store c.begin_next.new.conn).committed in
    let ensured = c.in-Ok-Some.ensures in
    next_life c.in-Ok-Some.life old new (c.schema-live.ensures.live (ensured.outside.was_open now.0 now.1)).1 stored (rw c.in-Ok-Some.field-0-is at (ensured.done now.0 now.1 stored.tables))
