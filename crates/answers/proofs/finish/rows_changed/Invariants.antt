-- What each round of `finish::rows_changed` keeps.
use Rattle.std.proofs.Common.{◌≡◌}
use Rattle.plan.specs.Need.{places_to}
use Rattle.answers.proofs.finish.rows_changed.Given as goal

abbrev pub invariant-loop-place : goal.invariant-loop-place
invariant-loop-place l = l.places.items ≡ places_to l.place
