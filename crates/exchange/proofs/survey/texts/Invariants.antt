-- What each round of `survey::texts` keeps.
use Rattle.std.proofs.Common.{◌≡◌, ℕ, List, Bor, map, take}
use Rattle.exchange.proofs.survey.texts.Given as goal

abbrev pub invariant-loop-place : goal.invariant-loop-place
invariant-loop-place l = l.names.items ≡ map (λ (field : Bor (List ℕ)). field.now) (take l.place l.fields)
