-- What each round of `localize::with_like` keeps.
use Rattle.std.proofs.Common.{◌≡◌, ◌++◌, ◌∷◌, drop, filter}
use Rattle.plan.specs.Located.{together}
use Rattle.plan.proofs.localize.with_like.Given as goal

abbrev pub invariant-loop-col : goal.invariant-loop-col
invariant-loop-col l = l.group.items ++ filter (together l.need l.leaves l.first) (drop l.col-index l.others) ≡ l.first ∷ filter (together l.need l.leaves l.first) l.others
