-- Why `joined::sources_of` returns: it goes on with one column less.
use Rattle.std.proofs.Common.{length}
use Rattle.answers.proofs.joined.+sources_of.Given as goal

abbrev pub decreases-sources_of : goal.decreases-sources_of
decreases-sources_of l = length l.columns.now
