-- Why `fetch::are_in_place` returns: it goes on with one condition less.
use Rattle.std.proofs.Common.{length}
use Rattle.plan.proofs.fetch.+are_in_place.Given as goal

abbrev pub decreases-are_in_place : goal.decreases-are_in_place
decreases-are_in_place l = length l.conds.now
