-- Why `pick::has_column` returns: it goes on with one column less.
use Rattle.std.proofs.Common.{length}
use Rattle.answers.proofs.pick.+has_column.Given as goal

abbrev pub decreases-has_column : goal.decreases-has_column
decreases-has_column l = length l.columns.now
