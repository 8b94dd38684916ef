-- What falls where `link::column_of` calls itself.
use Rattle.std.proofs.Common.{length}
use Rattle.plan.proofs.link.+column_of.Given as goal

abbrev pub decreases-column_of : goal.decreases-column_of
decreases-column_of l = length l.widths.now
