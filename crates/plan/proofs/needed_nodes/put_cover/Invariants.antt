-- What each round of `needed_nodes::put_cover` keeps.
use Rattle.std.proofs.Common.{◌≡◌, ◌++◌, drop, map}
use Rattle.plan.specs.Located.{covers, cut_read}
use Rattle.plan.proofs.needed_nodes.put_cover.Given as goal

-- the reads of those reached, and those of the rest, are those of all
abbrev pub invariant-loop-leaf : goal.invariant-loop-leaf
invariant-loop-leaf l = map (λ leaf. cut_read l.need l.columns leaf.now) l.reached.items ++ covers l.need l.columns (drop l.leaf-index l.leaves) ≡ covers l.need l.columns l.leaves
