-- A reduced plan as a transaction that waits for rows keeps it.
use Rattle.std.specs.Prelude.{List}
use Rattle.plan.specs.declared.fetch.Fetch.{Fetch}
use Rattle.plan.specs.declared.postfix.Node.{Node}
use Rattle.plan.specs.Postfix.{plan_of}
use Rattle.plan.specs.Shape.{Shape}

-- its nodes, each behind those that it is made of, and its fetches
pub record ReducedPlan : Type 0 where
  pub nodes : List Node
  pub fetches : List Fetch

-- the plan
abbrev pub plan_in : ReducedPlan → Shape
plan_in plan = plan_of plan.nodes
