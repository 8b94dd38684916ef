-- Why `table::given` returns: it goes on with rows of one leaf less.
use Rattle.std.proofs.Common.{length}
use Rattle.answers.proofs.table.+given.Given as goal

abbrev pub decreases-given : goal.decreases-given
decreases-given l = length l.fetched.now
