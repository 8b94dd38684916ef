-- Why `pick::are_once` returns: it goes on with one column less.
use Rattle.std.proofs.Common.{length}
use Rattle.answers.proofs.pick.+are_once.Given as goal

abbrev pub decreases-are_once : goal.decreases-are_once
decreases-are_once l = length l.columns.now
