use Rattle.std.proofs.Common.{ap}
use Rattle.sqlstore.specs.Content.{part_or_none}
use Rattle.sqlstore.proofs.Ascending.{part_put}
use Rattle.sqlstore.proofs.listing.parts_among.Goals as goal

pub loop-row-preserved : goal.loop-row-preserved
loop-row-preserved c =
    let found = c.in-Ok.ensures in
    part_put c.args.leaves.now c.args.leaf.now c.args.rows.now c.loop-row.row-index c.row-item.result c.in-Ok.found.0.now c.in-Ok.found.1 _ _ _ c.loop-row-test.true c.row-item.is found.leaf (ap part_or_none found.part.0) found.part.1 c.in_ok-push_own.ensures c.loop-row.invariant
