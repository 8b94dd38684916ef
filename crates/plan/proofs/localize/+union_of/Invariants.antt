-- Why `localize::union_of` ends: each half has fewer plans.
use Rattle.std.proofs.Common.{length}
use Rattle.plan.proofs.localize.+union_of.Given as goal

abbrev pub decreases-union_of : goal.decreases-union_of
decreases-union_of l = length l.plans.items
