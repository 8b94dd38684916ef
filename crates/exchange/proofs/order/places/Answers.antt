-- Why `order::places` meets its contract.
use Rattle.std.proofs.Common.{ℕ, List, Bor, Ok, map, Some, None, ap, get_or, sym, ◌∙◌}
use Rattle.exchange.specs.declared.order.HeaderFault.TheVariants as faults
use Rattle.exchange.specs.Order.{place_of}
use Rattle.exchange.proofs.Orders.{place_is}
use Rattle.exchange.proofs.Eaches.{each_more, each_refused}
use Rattle.exchange.proofs.order.places.Goals as goal

pub returns-in_default : goal.returns-in_default
returns-in_default c =
    let names : List (List ℕ) = map (λ (name : Bor (List ℕ)). name.now) c.args.names.now in
    let same = c.as_bytes.ensures.value ∙ c.as_str.ensures ∙ ap (λ column. column.name) c.index-columns-number.is in
    each_refused (place_of names) c.args.columns.now c.loop-number.number c.index-columns-number.result c.loop-number.places.items (faults.Lacking c.loop-number.number) c.loop-number-test.true c.loop-number.invariant
    (place_is c.args.names.now c.loop-number.number (get_or c.args.columns.now c.loop-number.number c.index-columns-number.result) _ c.place_in.result None same c.place_in.ensures c.in_default.is)

pub loop-number-preserved : goal.loop-number-preserved
loop-number-preserved c =
    let names : List (List ℕ) = map (λ (name : Bor (List ℕ)). name.now) c.args.names.now in
    let same = c.as_bytes.ensures.value ∙ c.as_str.ensures ∙ ap (λ column. column.name) c.index-columns-number.is in
    each_more (place_of names) c.args.columns.now c.loop-number.number c.index-columns-number.result c.loop-number.places.items c.in-Some.place c.loop-number-test.true c.loop-number.invariant
    (place_is c.args.names.now c.loop-number.number (get_or c.args.columns.now c.loop-number.number c.index-columns-number.result) _ c.place_in.result (Some c.in-Some.place) same c.place_in.ensures c.in-Some.is) ∙ ap Ok (sym c.in_ok-push.ensures.items)
