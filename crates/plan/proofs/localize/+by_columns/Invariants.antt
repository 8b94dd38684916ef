-- Why `localize::by_columns` returns: it goes on with one column less.
use Rattle.std.proofs.Common.{length}
use Rattle.plan.proofs.localize.+by_columns.Given as goal

abbrev pub decreases-by_columns : goal.decreases-by_columns
decreases-by_columns l = length l.columns.now
