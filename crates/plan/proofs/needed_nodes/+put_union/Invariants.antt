-- Why `needed_nodes::put_union` ends: each half has fewer leaves.
use Rattle.std.proofs.Common.{length}
use Rattle.plan.proofs.needed_nodes.+put_union.Given as goal

abbrev pub decreases-put_union : goal.decreases-put_union
decreases-put_union l = length l.leaves.now
