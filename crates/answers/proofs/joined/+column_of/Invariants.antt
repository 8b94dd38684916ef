-- Why `joined::column_of` returns: it goes on with one column less.
use Rattle.std.proofs.Common.{length}
use Rattle.answers.proofs.joined.+column_of.Given as goal

abbrev pub decreases-column_of : goal.decreases-column_of
decreases-column_of l = length l.columns.now
