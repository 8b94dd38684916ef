-- Why `Planned::nodes` meets its contract.
use Rattle.std.proofs.Common.{rules, ◌≡◌, List, subst}
use Rattle.std.specs.List.{Contains}
use Rattle.plan.specs.declared.postfix.Node.{Node}
use Rattle.plan.specs.Postfix.{plan_of}
use Rattle.plan.specs.Uniform.{EachRead}
use Rattle.desk.specs.ReducedPlan.{ReducedPlan, plan_in}
use Rattle.desk.proofs.transaction.Planned.nodes.Goals as goal

pub returns-clause-fetched : goal.returns-clause-fetched
returns-clause-fetched c =
    let kept = c.args.self.now in
    let P : ReducedPlan → Type 0 = λ kept. EachRead (λ read. Contains kept.fetches read) (plan_in kept) in
    let is : kept.nodes ≡ c.as_slice.result.now = search rules in
    subst (λ (nodes : List Node). EachRead (λ read. Contains kept.fetches read) (plan_of nodes)) is (subst P c.self.view_is c.self.invariant.0)
