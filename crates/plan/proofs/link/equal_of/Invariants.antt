-- What each round of `link::equal_of` keeps.
use Rattle.std.proofs.Common.{◌≡◌, ◌==◌, ◌&&◌, drop, find}
use Rattle.plan.specs.Need.{is_of, origin, places_on}
use Rattle.plan.proofs.link.equal_of.Given as goal

-- the first such place is among those of the rest
abbrev pub invariant-loop-link : goal.invariant-loop-link
invariant-loop-link l =
    find (λ other. is_of l.before l.width other && (origin l.links other == l.first)) (places_on (drop l.link-index l.links)) ≡ find (λ other. is_of l.before l.width other && (origin l.links other == l.first)) (places_on l.links)
