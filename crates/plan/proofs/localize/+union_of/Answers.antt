-- Why `localize::union_of` meets its contract.
use Rattle.std.proofs.Common.{◌≡◌, ◌++◌, ◌/◌, List, take, drop, flat_map, ap, ap₂, sym, ◌∙◌}
use Rattle.std.proofs.lemmas.Grind.{flat_map-append}
use Rattle.std.proofs.lemmas.List.{take-append-drop}
use Rattle.plan.specs.declared.plan.Plan.{Plan}
use Rattle.plan.specs.Located.{united}
use Rattle.plan.specs.Shape.{Shape, shape}
use Rattle.plan.proofs.localize.+union_of.Goals as goal

pub returns-then-len-gt1 : goal.returns-then-len-gt1
returns-then-len-gt1 t c =
    let plans = c.args.plans.items in
    let half = c.len-then-len-gt1.result / 2 in
    let put : Plan → List Shape = λ one. united (shape one) in
    let one : put c.in_ok-new.field-0.value ≡ flat_map put (take half plans) = ap put c.in_ok-new.ensures.ok ∙ c.in_ok-one.ensures ∙ ap (flat_map put) c.in_ok-later.ensures.items in
    let other : put c.in_ok-new-2.field-0.value ≡ flat_map put (drop half plans) = ap put c.in_ok-new-2.ensures.ok ∙ c.in_ok-other.ensures ∙ ap (flat_map put) c.in_ok-later.ensures.tail in
    ap₂ (λ (front rest : List Shape). front ++ rest) one other ∙ sym (flat_map-append put (take half plans) (drop half plans)) ∙ ap (flat_map put) (take-append-drop half plans)
