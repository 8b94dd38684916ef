-- What each round of `order::twice` keeps.
use Rattle.std.proofs.Common.{◌≡◌, [], ℕ, List, Bor, map, take, drop}
use Rattle.exchange.specs.Order.{twice_after}
use Rattle.exchange.proofs.order.twice.Given as goal

abbrev pub invariant-loop-place : goal.invariant-loop-place
invariant-loop-place l =
    let names : List (List ℕ) = map (λ (name : Bor (List ℕ)). name.now) l.names in
    twice_after (take l.place names) (drop l.place names) ≡ twice_after [] names
