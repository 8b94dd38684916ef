-- What falls where `link::number_of` calls itself.
use Rattle.std.proofs.Common.{length}
use Rattle.plan.proofs.link.+number_of.Given as goal

abbrev pub decreases-number_of : goal.decreases-number_of
decreases-number_of l = length l.widths.now
