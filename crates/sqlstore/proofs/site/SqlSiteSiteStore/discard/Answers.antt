use Rattle.std.proofs.Common.{arith}
use Rattle.sqlite.specs.Held.{state}
use Rattle.sqlstore.proofs.Sites.{discards, stored_dropped}
use Rattle.sqlstore.proofs.Bridge.{Stands}
use Rattle.sqlstore.proofs.site.SqlSiteSiteStore.discard.Goals as goal

pub returns-in-Ok-clause-leaves : goal.returns-in-Ok-clause-leaves
returns-in-Ok-clause-leaves g c =
    let leaves = c.args.self.now.leaves.items in
    let old = (state g.S.Store c.args.self.now.conn).committed in
    let new = (state g.S.Store c.discard.new.conn).committed in
    let stands : Stands c.in-Some.visit c.args.ticket = record { life = c.in-Some.ensures.0; visit = c.in-Some.ensures.1 } in
    record {
      clean = λ now. (c.in-Ok.ensures.outside.clean now.0, c.in-Ok.ensures.outside.was_open now.0 now.1);
      counts = omega arith;
      sound = λ now stored.
          stored_dropped leaves c.args.ticket c.in-Some.visit stands old new (c.schema-live.ensures.live (c.in-Ok.ensures.outside.was_open now.0 now.1)).1 stored (c.in-Ok.ensures.done now.0 stored.tables);
    }

pub returns-in-Ok-clause-ok : goal.returns-in-Ok-clause-ok
returns-in-Ok-clause-ok g c now stored =
    let leaves = c.args.self.now.leaves.items in
    let old = (state g.S.Store c.args.self.now.conn).committed in
    let new = (state g.S.Store c.discard.new.conn).committed in
    let stands : Stands c.in-Some.visit c.args.ticket = record { life = c.in-Some.ensures.0; visit = c.in-Some.ensures.1 } in
    discards leaves c.args.ticket c.in-Some.visit stands old new (c.schema-live.ensures.live (c.in-Ok.ensures.outside.was_open now.0 now.1)).1 stored.tables (c.in-Ok.ensures.done now.0 stored.tables)
