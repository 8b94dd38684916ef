use Rattle.std.proofs.Common.{length}
use Rattle.desk.proofs.opening.+numbered.Given as goal

abbrev pub decreases-numbered : goal.decreases-numbered
decreases-numbered l = length l.catalogs.now
