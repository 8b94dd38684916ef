use Rattle.std.proofs.Common.{length}
use Rattle.catalog.proofs.chain.+other_split.Given as goal

abbrev pub decreases-other_split : goal.decreases-other_split
decreases-other_split l = length l.relations.now
