-- What each round of `localize::without_like` keeps.
use Rattle.std.proofs.Common.{◌≡◌, ◌++◌, drop, filter}
use Rattle.plan.specs.Located.{apart}
use Rattle.plan.proofs.localize.without_like.Given as goal

abbrev pub invariant-loop-col : goal.invariant-loop-col
invariant-loop-col l = l.found.items ++ filter (apart l.need l.leaves l.first) (drop l.col-index l.others) ≡ filter (apart l.need l.leaves l.first) l.others
