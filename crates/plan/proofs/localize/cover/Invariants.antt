-- What each round of `localize::cover` keeps.
use Rattle.std.proofs.Common.{◌≡◌, ◌++◌, drop, flat_map}
use Rattle.plan.specs.Located.{covers, united}
use Rattle.plan.specs.Shape.{shape}
use Rattle.plan.proofs.localize.cover.Given as goal

abbrev pub invariant-loop-leaf : goal.invariant-loop-leaf
invariant-loop-leaf l = flat_map (λ one. united (shape one)) l.plans.items ++ covers l.need l.columns (drop l.leaf-index l.leaves) ≡ covers l.need l.columns l.leaves
