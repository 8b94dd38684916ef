-- What each round of `site_leaves::known_leaves` keeps.
use Rattle.std.proofs.Common.{◌≡◌, take}
use Rattle.world.specs.Leaves.{known_leaves}
use Rattle.world.proofs.site_leaves.known_leaves.Given as goal

abbrev pub invariant-loop-schema : goal.invariant-loop-schema
invariant-loop-schema l = l.leaves.items ≡ known_leaves (take l.schema-index l.schema-items)
