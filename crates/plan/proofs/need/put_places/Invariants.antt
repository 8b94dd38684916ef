-- What each round of `need::put_places` keeps.
use Rattle.std.proofs.Common.{◌≡◌, ◌++◌, drop}
use Rattle.plan.specs.Need.{places_of}
use Rattle.plan.proofs.need.put_places.Given as goal

-- what was put out, and what the rest gives, is what all give
abbrev pub invariant-loop-place : goal.invariant-loop-place
invariant-loop-place l = l.out.items ++ places_of l.before l.width (drop l.place-index l.places) ≡ l.initial.out.items ++ places_of l.before l.width l.places
