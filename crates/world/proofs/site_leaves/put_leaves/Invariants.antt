-- What each round of `site_leaves::put_leaves` keeps.
use Rattle.std.proofs.Common.{◌++◌}
use Rattle.world.specs.Leaves.{leaves_numbered}
use Rattle.world.proofs.KnownLeaves.{NumbersRest}
use Rattle.world.proofs.site_leaves.put_leaves.Given as goal

abbrev pub invariant-loop-number : goal.invariant-loop-number
invariant-loop-number l = NumbersRest l.relation (l.fn.leaves.items ++ leaves_numbered l.relation) l.leaves.items l.number
