-- Why `order::twice` meets its contract.
use Rattle.std.proofs.Common.{ℕ, ◌<◌, List, Bor, length, map, sym, ◌∙◌, arith}
use Rattle.std.proofs.lemmas.List.{length-map}
use Rattle.exchange.proofs.Orders.{stands_before, twice_found, twice_on}
use Rattle.exchange.proofs.order.twice.Goals as goal

pub returns-then-stands_in : goal.returns-then-stands_in
returns-then-stands_in c =
    let names : List (List ℕ) = map (λ (name : Bor (List ℕ)). name.now) c.args.names.now in
    let within : c.loop-place.place < length names = omega (arith, length-map c.args.names.now (λ (name : Bor (List ℕ)). name.now)) in
    sym (sym c.loop-place.invariant ∙ twice_found names c.loop-place.place _ within (stands_before c.args.names.now c.loop-place.place _ c.stands_in.result c.loop-place-test.true c.stands_in.ensures ∙ c.if-stands_in.true))

pub loop-place-preserved : goal.loop-place-preserved
loop-place-preserved c =
    let names : List (List ℕ) = map (λ (name : Bor (List ℕ)). name.now) c.args.names.now in
    let within : c.loop-place.place < length names = omega (arith, length-map c.args.names.now (λ (name : Bor (List ℕ)). name.now)) in
    sym (twice_on names c.loop-place.place _ within (stands_before c.args.names.now c.loop-place.place _ c.stands_in.result c.loop-place-test.true c.stands_in.ensures ∙ c.if-stands_in.false)) ∙ c.loop-place.invariant
