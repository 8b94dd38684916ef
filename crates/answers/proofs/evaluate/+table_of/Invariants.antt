-- Why `evaluate::table_of` returns: it goes on with fewer nodes, or with the same through `tables_of`.
use Rattle.std.proofs.Common.{◌+◌, length}
use Rattle.answers.proofs.evaluate.+table_of.Given as goal

abbrev pub decreases-table_of : goal.decreases-table_of
decreases-table_of l = length l.nodes.now + length l.nodes.now

abbrev pub decreases-tables_of : goal.decreases-tables_of
decreases-tables_of l = length l.nodes.now + length l.nodes.now + 1
