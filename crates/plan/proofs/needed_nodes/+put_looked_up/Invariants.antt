-- Why `needed_nodes::put_looked_up` returns: it goes on with one ON less.
use Rattle.std.proofs.Common.{length}
use Rattle.plan.proofs.needed_nodes.+put_looked_up.Given as goal

abbrev pub decreases-put_looked_up : goal.decreases-put_looked_up
decreases-put_looked_up l = length l.links.now
