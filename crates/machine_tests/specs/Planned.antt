-- Plans that tests evaluate.
use Rattle.std.specs.List.{Contains}
use Rattle.plan.specs.declared.nodes.ReducedNodes.{ReducedNodes}
use Rattle.plan.specs.Postfix.{plan_of}
use Rattle.plan.specs.Uniform.{EachRead, IsUniform}

-- each read of a reduced plan is one of its fetches, and both sides of a union have the same columns
pub record IsPlanned (reduced : ReducedNodes) : Type 0 where
  pub fetched : EachRead (λ read. Contains reduced.fetches.items read) (plan_of reduced.nodes.items)
  pub uniform : IsUniform (plan_of reduced.nodes.items)
