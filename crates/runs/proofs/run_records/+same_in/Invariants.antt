use Rattle.std.proofs.Common.{length}
use Rattle.runs.proofs.run_records.+same_in.Given as goal

abbrev pub decreases-same_in : goal.decreases-same_in
decreases-same_in l = length l.catalogs.now
