use Rattle.std.proofs.Common.{length}
use Rattle.catalog.proofs.path.+path_columns.Given as goal

abbrev pub decreases-path_columns : goal.decreases-path_columns
decreases-path_columns l = length l.steps.now
