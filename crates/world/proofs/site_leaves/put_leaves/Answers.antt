-- Why `site_leaves::put_leaves` meets its contract: number by number, all are put.
use Rattle.std.proofs.Common.{arith}
use Rattle.world.proofs.KnownLeaves.{all_put, none_put, one_put}
use Rattle.world.proofs.site_leaves.put_leaves.Goals as goal

pub loop-number-init : goal.loop-number-init
loop-number-init c = none_put _ _

pub loop-number-preserved : goal.loop-number-preserved
loop-number-preserved c = one_put _ _ _ _ _ c.loop-number.number c.in_ok-copy.ensures c.in_ok-push.ensures.items c.loop-number.invariant

pub returns : goal.returns
returns c = all_put _ _ _ c.loop-number.number (omega arith) c.loop-number.invariant
