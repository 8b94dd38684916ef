-- Why `table::are_all_parts` ends: the rest has fewer fetches.
use Rattle.std.proofs.Common.{length}
use Rattle.answers.proofs.table.+are_all_parts.Given as goal

abbrev pub decreases-are_all_parts : goal.decreases-are_all_parts
decreases-are_all_parts l = length l.fetches.now
