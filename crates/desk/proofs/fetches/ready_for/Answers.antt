-- Why `ready_for` meets its contract.
use Rattle.std.proofs.Common.{rules, ◌≡◌, map}
use Rattle.catalog.specs.Relation.{catalogue_of}
use Rattle.desk.specs.Planned.{ask_from}
use Rattle.desk.proofs.Doing.{plan_made}
use Rattle.desk.proofs.fetches.ready_for.Goals as goal

pub returns-clause-of_plan : goal.returns-clause-of_plan
returns-clause-of_plan c = λ db n of same stated.
    let catalogue = catalogue_of c.args.catalog.now in
    let plan = c.in_ok-plan.plan in
    let asks = c.in_ok-asks.asks.items in
    let list : asks ≡ map (ask_from catalogue) plan.fetches = search rules in
    plan_made db of n catalogue same c.args.statement.now plan asks c.requires stated.next c.in_ok-plan.ensures.fetches c.in_ok-plan.ensures.finds list
