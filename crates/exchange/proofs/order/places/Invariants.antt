-- What each round of `order::places` keeps.
use Rattle.std.proofs.Common.{◌≡◌, ℕ, List, Bor, Ok, map, take}
use Rattle.exchange.specs.Each.{each_from}
use Rattle.exchange.specs.Order.{place_of}
use Rattle.exchange.proofs.order.places.Given as goal

abbrev pub invariant-loop-number : goal.invariant-loop-number
invariant-loop-number l = each_from (place_of (map (λ (name : Bor (List ℕ)). name.now) l.names)) 0 (take l.number l.columns) ≡ Ok l.places.items
