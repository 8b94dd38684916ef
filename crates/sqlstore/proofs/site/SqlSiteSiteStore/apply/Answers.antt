use Rattle.std.proofs.Common.{arith}
use Rattle.sqlite.specs.Held.{state}
use Rattle.sqlstore.proofs.Applying.{applied}
use Rattle.sqlstore.proofs.Bridge.{Stands}
use Rattle.sqlstore.proofs.Sites.{applies, applies_nothing, stored_applied}
use Rattle.sqlstore.proofs.site.SqlSiteSiteStore.apply.Goals as goal

pub returns-in-Ok-clause-leaves : goal.returns-in-Ok-clause-leaves
returns-in-Ok-clause-leaves g c =
    let leaves = c.args.self.now.leaves.items in
    let old = (state g.S.Store c.args.self.now.conn).committed in
    let new = (state g.S.Store c.apply.new.conn).committed in
    let stands : Stands c.in-Some.visit c.args.ticket = record { life = c.in-Some.ensures.0; visit = c.in-Some.ensures.1 } in
    record {
      clean = λ now. (c.in-Ok.ensures.outside.clean now.0, c.in-Ok.ensures.outside.was_open now.0 now.1);
      counts = omega arith;
      sound = λ now stored.
          stored_applied leaves c.args.ticket c.in-Some.visit stands old new (c.schema-live.ensures.live (c.in-Ok.ensures.outside.was_open now.0 now.1)).1 stored (applied c.in-Some.visit old new (c.in-Ok.ensures.done now.0 stored.tables));
    }

pub returns-in-Ok-clause-ok : goal.returns-in-Ok-clause-ok
returns-in-Ok-clause-ok g c now stored row is =
    let leaves = c.args.self.now.leaves.items in
    let old = (state g.S.Store c.args.self.now.conn).committed in
    let new = (state g.S.Store c.apply.new.conn).committed in
    let stands : Stands c.in-Some.visit c.args.ticket = record { life = c.in-Some.ensures.0; visit = c.in-Some.ensures.1 } in
    applies leaves c.args.ticket c.in-Some.visit stands old new (c.schema-live.ensures.live (c.in-Ok.ensures.outside.was_open now.0 now.1)).1 stored.tables (applied c.in-Some.visit old new (c.in-Ok.ensures.done now.0 stored.tables)) row is

pub returns-in-Ok-clause-none : goal.returns-in-Ok-clause-none
returns-in-Ok-clause-none g c now stored none =
    let leaves = c.args.self.now.leaves.items in
    let old = (state g.S.Store c.args.self.now.conn).committed in
    let new = (state g.S.Store c.apply.new.conn).committed in
    let stands : Stands c.in-Some.visit c.args.ticket = record { life = c.in-Some.ensures.0; visit = c.in-Some.ensures.1 } in
    applies_nothing leaves c.args.ticket c.in-Some.visit stands old new (c.schema-live.ensures.live (c.in-Ok.ensures.outside.was_open now.0 now.1)).1 stored (applied c.in-Some.visit old new (c.in-Ok.ensures.done now.0 stored.tables)) none
