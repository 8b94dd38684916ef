-- The relations that are left grow fewer.
use Rattle.std.proofs.Common.{length}
use Rattle.runs.proofs.run_records.+put_relations.Given as goal

abbrev pub decreases-put_relations : goal.decreases-put_relations
decreases-put_relations g l = length l.relations.now
