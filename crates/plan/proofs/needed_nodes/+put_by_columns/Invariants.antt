-- Why `needed_nodes::put_by_columns` returns: it goes on with one column less.
use Rattle.std.proofs.Common.{length}
use Rattle.plan.proofs.needed_nodes.+put_by_columns.Given as goal

abbrev pub decreases-put_by_columns : goal.decreases-put_by_columns
decreases-put_by_columns l = length l.columns.now
