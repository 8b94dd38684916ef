-- What each round of `row::values` keeps.
use Rattle.std.proofs.Common.{◌≡◌, ℕ, List, Bor, Ok, map, take}
use Rattle.exchange.specs.Each.{each_from}
use Rattle.exchange.specs.Row.{column_value}
use Rattle.exchange.proofs.row.values.Given as goal

abbrev pub invariant-loop-number : goal.invariant-loop-number
invariant-loop-number l = each_from (column_value l.order (map (λ (field : Bor (List ℕ)). field.now) l.fields)) 0 (take l.number l.columns) ≡ Ok l.values.items
