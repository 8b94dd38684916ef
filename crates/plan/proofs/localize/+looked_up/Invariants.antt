-- Why `localize::looked_up` returns: it goes on with one ON less.
use Rattle.std.proofs.Common.{length}
use Rattle.plan.proofs.localize.+looked_up.Given as goal

abbrev pub decreases-looked_up : goal.decreases-looked_up
decreases-looked_up l = length l.links.now
