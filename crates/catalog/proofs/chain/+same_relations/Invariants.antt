use Rattle.std.proofs.Common.{length}
use Rattle.catalog.proofs.chain.+same_relations.Given as goal

abbrev pub decreases-same_relations : goal.decreases-same_relations
decreases-same_relations l = length l.relations.now
