-- Why `pick::are_same` returns: it goes on with one column less.
use Rattle.std.proofs.Common.{length}
use Rattle.answers.proofs.pick.+are_same.Given as goal

abbrev pub decreases-are_same : goal.decreases-are_same
decreases-are_same l = length l.columns.now
