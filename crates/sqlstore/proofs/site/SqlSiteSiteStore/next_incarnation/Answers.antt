use Rattle.std.proofs.Common.{arith}
use Rattle.sqlite.specs.Held.{state}
use Rattle.sqlstore.proofs.Living.{next_begins, next_stored, next_life}
use Rattle.sqlstore.proofs.site.SqlSiteSiteStore.next_incarnation.Goals as goal

pub returns-in-Ok-Some-clause-leaves : goal.returns-in-Ok-Some-clause-leaves
returns-in-Ok-Some-clause-leaves g c =
    let leaves = c.args.self.now.leaves.items in
    let old = (state g.S.Store c.args.self.now.conn).committed in
    let new = (state g.S.Store c.live_next.new.conn).committed in
    let ensured = c.in-Ok-Some.ensures in
    record {
      clean = λ now. (ensured.outside.clean now.0, ensured.outside.was_open now.0 now.1);
      counts = omega arith;
      sound = λ now stored. next_stored leaves old new (c.schema-live.ensures.live (ensured.outside.was_open now.0 now.1)).1 c.in-Ok-Some.life (rw c.in-Ok-Some.field-0-is at (ensured.done now.0 now.1 stored.tables)) stored;
    }

pub returns-in-Ok-Some-clause-ok : goal.returns-in-Ok-Some-clause-ok
returns-in-Ok-Some-clause-ok g c now stored low =
    let leaves = c.args.self.now.leaves.items in
    let old = (state g.S.Store c.args.self.now.conn).committed in
    let new = (state g.S.Store c.live_next.new.conn).committed in
    let ensured = c.in-Ok-Some.ensures in
    next_begins leaves old new (c.schema-live.ensures.live (ensured.outside.was_open now.0 now.1)).1 c.in-Ok-Some.life (rw c.in-Ok-Some.field-0-is at (ensured.done now.0 now.1 stored.tables)) stored

pub returns-in-Ok-Some-clause-life : goal.returns-in-Ok-Some-clause-life
returns-in-Ok-Some-clause-life g c now stored =
    let leaves = c.args.self.now.leaves.items in
    let old = (state g.S.Store c.args.self.now.conn).committed in
    let new = (state g.S.Store c.live_next.new.conn).committed in
    let ensured = c.in-Ok-Some.ensures in
    next_life leaves old new (c.schema-live.ensures.live (ensured.outside.was_open now.0 now.1)).1 c.in-Ok-Some.life (rw c.in-Ok-Some.field-0-is at (ensured.done now.0 now.1 stored.tables)) stored
