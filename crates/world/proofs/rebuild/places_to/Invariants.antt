-- What each round of `places_to` keeps.
use Rattle.std.proofs.Common.{◌≡◌}
use Rattle.plan.specs.Need.{places_to}
use Rattle.world.proofs.rebuild.places_to.Given as goal

-- the numbers below the one that is next
abbrev pub invariant-loop-place : goal.invariant-loop-place
invariant-loop-place l = l.places.items ≡ places_to l.place
