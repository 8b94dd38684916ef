-- Why `needed_nodes::put_plan` meets its contract.
use Rattle.catalog.specs.Relation.{catalogue_of}
use Rattle.plan.specs.Located.{IsLocated}
use Rattle.plan.specs.PlanOf.{IsPlanOf}
use Rattle.plan.proofs.Planned.{plan_of}
use Rattle.plan.proofs.Putting.{ok_as}
use Rattle.plan.proofs.needed_nodes.put_plan.Goals as goal

pub returns : goal.returns
returns c =
    let catalogue = catalogue_of c.args.catalog.now in
    let statement = c.args.statement.now in
    ok_as (IsLocated catalogue statement) (IsPlanOf catalogue statement) c.args.fetches.now c.args.out.now.items c.put_located.new.out.items c.put_located.result
    (λ plan is. plan_of catalogue statement plan c.some_leaf_serves.ensures.whole c.one_leaf_serves.ensures.whole c.leaf_names_are_unique.ensures c.relations-relations.ensures.formed c.relations-relations.ensures.valid is)
    c.put_located.ensures
