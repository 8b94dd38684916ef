-- Why `LockTable::lock_touched` meets its contract.
use Rattle.std.proofs.Common.{rules, ◌<◌, length}
use Rattle.site.specs.Recovery.{grants}
use Rattle.site.proofs.LockPlaces.{one_further}
use Rattle.site.proofs.lock_table.LockTable.lock_touched.Goals as goal

pub loop-place-preserved : goal.loop-place-preserved
loop-place-preserved c =
    let below : c.loop-place.place < length c.args.self.now.items = search rules in
    one_further (grants c.args.ticket c.args.changes.now) c.args.self.now.items c.loop-place.self.items c.lock_if_touched.new.self.items c.loop-place.place below c.loop-place.invariant c.in_ok-lock_if_touched.ensures.ok
