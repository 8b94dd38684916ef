use Rattle.std.proofs.Common.{length}
use Rattle.catalog.proofs.chain.+follow.Given as goal

abbrev pub decreases-follow : goal.decreases-follow
decreases-follow l = length l.others.now
