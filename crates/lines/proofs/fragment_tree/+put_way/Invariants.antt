use Rattle.std.proofs.Common.{length}
use Rattle.lines.proofs.fragment_tree.+put_way.Given as goal

abbrev pub decreases-put_way : goal.decreases-put_way
decreases-put_way l = length l.way.now
