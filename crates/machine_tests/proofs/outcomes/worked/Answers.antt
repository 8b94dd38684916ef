-- Why `outcomes::worked` may call `work`: each read of the plan is a fetch.
use Rattle.std.proofs.Common.{sym, subst, List}
use Rattle.std.specs.List.{Contains}
use Rattle.plan.specs.declared.fetch.Fetch.{Fetch}
use Rattle.plan.specs.declared.postfix.Node.{Node}
use Rattle.plan.specs.Postfix.{plan_of}
use Rattle.plan.specs.Uniform.{EachRead}
use Rattle.machine_tests.proofs.outcomes.worked.Goals as goal

pub work-requires-clause-fetched : goal.work-requires-clause-fetched
work-requires-clause-fetched c =
    subst (λ (nodes : List Node). EachRead (λ read. Contains c.as_slice-reads.result.now read) (plan_of nodes)) (sym c.as_slice-nodes.ensures.value)
    (subst (λ (fetches : List Fetch). EachRead (λ read. Contains fetches read) (plan_of c.args.less.now.nodes.items)) (sym c.as_slice-reads.ensures.value) c.requires.fetched)
