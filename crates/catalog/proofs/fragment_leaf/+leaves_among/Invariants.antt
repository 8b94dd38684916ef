use Rattle.std.proofs.Common.{length}
use Rattle.catalog.proofs.fragment_leaf.+leaves_among.Given as goal

abbrev pub decreases-leaves_among : goal.decreases-leaves_among
decreases-leaves_among l = length l.relations.now
