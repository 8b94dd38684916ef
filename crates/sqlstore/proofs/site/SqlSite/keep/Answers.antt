use Rattle.std.proofs.Common.{arith}
use Rattle.sqlite.specs.Held.{state}
use Rattle.sqlstore.proofs.Promising.{promise_prepares, promise_stored}
use Rattle.sqlstore.proofs.site.SqlSite.keep.Goals as goal

pub returns-in-Ok-clause-leaves : goal.returns-in-Ok-clause-leaves
returns-in-Ok-clause-leaves g c =
    let leaves = c.args.self.now.leaves.items in
    let old = (state g.S.Store c.args.self.now.conn).committed in
    let new = (state g.S.Store c.keep.new.conn).committed in
    let promise = c.in-Ok-Some.promise in
    let is = rw (c.in-Ok-Some.field-0-is, c.as_slice.ensures.value) at c.in-Ok-Some.ensures in
    record {
      clean = λ now. (c.in-Ok.ensures.outside.clean now.0, c.in-Ok.ensures.outside.was_open now.0 now.1);
      counts = omega arith;
      sound = λ now stored.
          promise_stored leaves c.args.self.now.named c.args.ticket c.args.txn c.args.changes.now promise is old new (c.schema-live.ensures.live (c.in-Ok.ensures.outside.was_open now.0 now.1)).1 stored
          (rw c.deref.ensures.value at (c.in-Ok.ensures.done now.0 stored.tables)) c.len-keyed.ensures.keyed;
    }

pub returns-in-Ok-clause-ok : goal.returns-in-Ok-clause-ok
returns-in-Ok-clause-ok g c now stored may =
    let leaves = c.args.self.now.leaves.items in
    let old = (state g.S.Store c.args.self.now.conn).committed in
    let new = (state g.S.Store c.keep.new.conn).committed in
    let promise = c.in-Ok-Some.promise in
    let is = rw (c.in-Ok-Some.field-0-is, c.as_slice.ensures.value) at c.in-Ok-Some.ensures in
    promise_prepares leaves c.args.self.now.named c.args.ticket c.args.txn c.args.changes.now promise is old new (c.schema-live.ensures.live (c.in-Ok.ensures.outside.was_open now.0 now.1)).1 stored
    (rw c.deref.ensures.value at (c.in-Ok.ensures.done now.0 stored.tables)) may.new
