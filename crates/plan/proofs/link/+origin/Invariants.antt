-- What falls where `link::origin` calls itself.
use Rattle.std.proofs.Common.{length}
use Rattle.plan.proofs.link.+origin.Given as goal

abbrev pub decreases-origin : goal.decreases-origin
decreases-origin l = length l.links.now
