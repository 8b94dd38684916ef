-- Why `outcomes::evaluated` may call `evaluate_counted`: what came for the fetches came for each read of the plan.
use Rattle.std.proofs.Common.{List, refl, sym, subst}
use Rattle.std.specs.List.{AllByRecursion}
use Rattle.plan.specs.declared.fetch.Fetch.{Fetch}
use Rattle.plan.specs.declared.postfix.Node.{Node}
use Rattle.plan.specs.Postfix.{plan_of}
use Rattle.plan.specs.Uniform.{EachRead}
use Rattle.answers.specs.Table.{AreParts, given}
use Rattle.answers.proofs.Worked.{each_read}
use Rattle.machine_tests.proofs.outcomes.evaluated.Goals as goal

pub evaluate_counted-requires-clause-parts : goal.evaluate_counted-requires-clause-parts
evaluate_counted-requires-clause-parts c =
    let rows = c.args.rows.now in
    let Came : Fetch → Type 0 = λ read. AreParts read.columns (given rows read.leaf) in
    let P : List Fetch → Type 0 = AllByRecursion Came in
    let all : P c.as_slice-reads.result.now = c.if-not-are_all_parts.ensures.0 refl in
    subst (λ (nodes : List Node). EachRead Came (plan_of nodes)) (sym c.as_slice-nodes.ensures.value)
    (each_read Came c.args.less.now.fetches.items (plan_of c.args.less.now.nodes.items) (subst P c.as_slice-reads.ensures.value all) c.requires.fetched)
