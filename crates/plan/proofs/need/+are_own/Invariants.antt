-- Why `need::are_own` returns: it goes on with one condition less.
use Rattle.std.proofs.Common.{length}
use Rattle.plan.proofs.need.+are_own.Given as goal

abbrev pub decreases-are_own : goal.decreases-are_own
decreases-are_own l = length l.conds.now
