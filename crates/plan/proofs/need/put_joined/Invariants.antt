-- What each round of `need::put_joined` keeps.
use Rattle.std.proofs.Common.{◌≡◌, ◌++◌, drop}
use Rattle.plan.specs.Need.{places_of, places_on}
use Rattle.plan.proofs.need.put_joined.Given as goal

-- what was put out, and what the rest gives, is what all give
abbrev pub invariant-loop-link : goal.invariant-loop-link
invariant-loop-link l = l.out.items ++ places_of l.before l.width (places_on (drop l.link-index l.links)) ≡ l.initial.out.items ++ places_of l.before l.width (places_on l.links)
