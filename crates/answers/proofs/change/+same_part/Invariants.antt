-- Why `change::same_part` returns: it goes on with one value less.
use Rattle.std.proofs.Common.{length}
use Rattle.answers.proofs.change.+same_part.Given as goal

abbrev pub decreases-same_part : goal.decreases-same_part
decreases-same_part l = length l.values.now
