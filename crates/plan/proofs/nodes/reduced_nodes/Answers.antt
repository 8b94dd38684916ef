-- Why `nodes::reduced_nodes` meets its contract.
use Rattle.std.proofs.Common.{rules, ◌≡◌, [], ◌++◌, sym, ap, ◌∙◌, subst, List}
use Rattle.catalog.specs.Catalogue.{Catalogue}
use Rattle.catalog.specs.FragmentLeaf.{schemas_of}
use Rattle.catalog.specs.Relation.{catalogue_of}
use Rattle.meaning.specs.declared.statement.Statement.{Statement}
use Rattle.meaning.specs.Statement.{IsStatementOf}
use Rattle.plan.specs.declared.fetch.Fetch.{Fetch}
use Rattle.plan.specs.declared.postfix.Node.{Node}
use Rattle.plan.specs.Located.{PutsPlan}
use Rattle.plan.specs.PlanOf.{IsPlanOf, IsReduced}
use Rattle.plan.specs.Postfix.{plan_of, postfix}
use Rattle.plan.specs.Reduced.{is_fetched, reduced}
use Rattle.plan.specs.Stated.{AreFetchesOf}
use Rattle.plan.proofs.Postfixed.{plan_is}
use Rattle.plan.proofs.nodes.reduced_nodes.Goals as goal

-- the plan that the nodes leave is the reduced one
left_by : (catalogue : Catalogue) (statement : Statement) (fetches read : List Fetch) (before nodes : List Node) → read ≡ fetches → before ≡ [] → IsStatementOf (schemas_of catalogue) statement → AreFetchesOf catalogue statement fetches → PutsPlan (IsPlanOf catalogue statement) read before nodes →
    IsReduced catalogue statement fetches (plan_of nodes)
left_by catalogue statement fetches read before nodes same none of are puts =
    let less = reduced (is_fetched fetches) puts.plan in
    let there : nodes ≡ postfix less = puts.put ∙ ap (λ (front : List Node). front ++ postfix (reduced (is_fetched read) puts.plan)) none ∙ ap (λ (all : List Fetch). postfix (reduced (is_fetched all) puts.plan)) same in
    subst (IsReduced catalogue statement fetches) (sym (ap plan_of there ∙ plan_is less)) (puts.is fetches of are)

pub needed_fetches-requires : goal.needed_fetches-requires
needed_fetches-requires c = record { statement = c.args.statement.now; are = c.in_ok-needs.ensures; of_schemas = c.requires }

pub returns-clause-fetches : goal.returns-clause-fetches
returns-clause-fetches c = c.in_ok-fetches.ensures c.args.statement.now c.in_ok-needs.ensures c.requires

pub returns-clause-rows : goal.returns-clause-rows
returns-clause-rows c =
    let are = c.in_ok-fetches.ensures c.args.statement.now c.in_ok-needs.ensures c.requires in
    let none : c.in_ok-nodes.nodes.items ≡ [] = search rules in
    (left_by (catalogue_of c.args.catalog.now) c.args.statement.now c.in_ok-fetches.fetches.items c.as_slice.result.now c.in_ok-nodes.nodes.items c.put_plan.new.out.items c.as_slice.ensures.value none c.requires are c.in_ok-put_plan.ensures).finds

pub returns-clause-fetched : goal.returns-clause-fetched
returns-clause-fetched c =
    let are = c.in_ok-fetches.ensures c.args.statement.now c.in_ok-needs.ensures c.requires in
    let none : c.in_ok-nodes.nodes.items ≡ [] = search rules in
    (left_by (catalogue_of c.args.catalog.now) c.args.statement.now c.in_ok-fetches.fetches.items c.as_slice.result.now c.in_ok-nodes.nodes.items c.put_plan.new.out.items c.as_slice.ensures.value none c.requires are c.in_ok-put_plan.ensures).fetched

pub returns-clause-uniform : goal.returns-clause-uniform
returns-clause-uniform c =
    let are = c.in_ok-fetches.ensures c.args.statement.now c.in_ok-needs.ensures c.requires in
    let none : c.in_ok-nodes.nodes.items ≡ [] = search rules in
    (left_by (catalogue_of c.args.catalog.now) c.args.statement.now c.in_ok-fetches.fetches.items c.as_slice.result.now c.in_ok-nodes.nodes.items c.put_plan.new.out.items c.as_slice.ensures.value none c.requires are c.in_ok-put_plan.ensures).uniform
