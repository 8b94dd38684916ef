-- Why `work::work` meets its contract.
use Rattle.std.proofs.Common.{◌≡◌}
use Rattle.meaning.specs.Meaning.{meaning}
use Rattle.meaning.specs.Whole.{FitsSchema, Relations}
use Rattle.catalog.specs.FragmentLeaf.{schemas_of}
use Rattle.catalog.specs.Relation.{catalogue_of}
use Rattle.plan.specs.Given.{AreBrought}
use Rattle.plan.specs.Postfix.{plan_of}
use Rattle.answers.specs.declared.finish.Outcome.{Outcome}
use Rattle.answers.specs.Table.{AreParts, IsTableOf, given}
use Rattle.answers.specs.Writes.{writes_between}
use Rattle.answers.proofs.Worked.{each_read, over_brought, table_of}
use Rattle.answers.proofs.work.work.Goals as goal

pub evaluate-requires-clause-parts : goal.evaluate-requires-clause-parts
evaluate-requires-clause-parts c =
    each_read (λ read. AreParts read.columns (given c.args.fetched.now read.leaf)) c.args.fetches.now (plan_of c.args.nodes.now) c.requires.parts c.requires.fetched

pub returns-clause-answer : goal.returns-clause-answer
returns-clause-answer c = λ of are finds.
    let catalogue = catalogue_of c.args.catalog.now in
    let statement = c.args.statement.now in
    let fetches = c.args.fetches.now in
    let contents = given c.args.fetched.now in
    let Holds : Outcome → Relations → Type 0 = λ outcome whole. outcome.answer ≡ (meaning statement whole).0 in
    over_brought c.finish.result (FitsSchema (schemas_of catalogue)) (λ whole. IsTableOf statement whole c.in_ok-table.table) (λ whole. AreBrought catalogue whole fetches contents) Holds
    (table_of catalogue statement fetches (plan_of c.args.nodes.now) contents c.in_ok-table.table c.brought_is_read.ensures c.contents_give.ensures.reads c.relations-relations.ensures.formed of are finds c.in_ok-table.ensures)
    (c.finish.ensures.answer of)

pub returns-clause-writes : goal.returns-clause-writes
returns-clause-writes c = λ of are finds.
    let catalogue = catalogue_of c.args.catalog.now in
    let statement = c.args.statement.now in
    let fetches = c.args.fetches.now in
    let contents = given c.args.fetched.now in
    let Holds : Outcome → Relations → Type 0 = λ outcome whole. outcome.writes ≡ writes_between catalogue whole (meaning statement whole).1 in
    over_brought c.finish.result (FitsSchema (schemas_of catalogue)) (λ whole. IsTableOf statement whole c.in_ok-table.table) (λ whole. AreBrought catalogue whole fetches contents) Holds
    (table_of catalogue statement fetches (plan_of c.args.nodes.now) contents c.in_ok-table.table c.brought_is_read.ensures c.contents_give.ensures.reads c.relations-relations.ensures.formed of are finds c.in_ok-table.ensures)
    (c.finish.ensures.writes of)
