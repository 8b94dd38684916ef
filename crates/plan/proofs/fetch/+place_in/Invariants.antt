-- Why `fetch::place_in` returns: it goes on with one column less.
use Rattle.std.proofs.Common.{length}
use Rattle.plan.proofs.fetch.+place_in.Given as goal

abbrev pub decreases-place_in : goal.decreases-place_in
decreases-place_in l = length l.columns.now
