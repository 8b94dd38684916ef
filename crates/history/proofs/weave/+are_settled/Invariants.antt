-- The histories that are left grow fewer.
use Rattle.std.proofs.Common.{length}
use Rattle.history.proofs.weave.+are_settled.Given as goal

abbrev pub decreases-are_settled : goal.decreases-are_settled
decreases-are_settled l = length l.pasts.now
