-- The sites that are left grow fewer.
use Rattle.std.proofs.Common.{length}
use Rattle.world.proofs.rebuild.+settled_among.Given as goal

abbrev pub decreases-settled_among : goal.decreases-settled_among
decreases-settled_among g l = length l.sites.now
