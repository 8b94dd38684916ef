-- What each round of `finish::columns_listed` keeps.
use Rattle.std.proofs.Common.{◌≡◌, ◌++◌, drop}
use Rattle.std.specs.List.{filter_map}
use Rattle.answers.specs.Laid.{column_of}
use Rattle.answers.proofs.finish.columns_listed.Given as goal

abbrev pub invariant-loop-place : goal.invariant-loop-place
invariant-loop-place l = l.found.items ++ filter_map (λ place. column_of place l.columns) (drop l.place-index l.places) ≡ filter_map (λ place. column_of place l.columns) l.places
