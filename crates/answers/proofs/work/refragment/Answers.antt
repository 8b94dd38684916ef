-- Why `work::refragment` meets its contract.
use Rattle.std.proofs.Common.{◌≡◌, ap, length, sym, ◌∙◌, ℕ}
use Rattle.std.proofs.lemmas.List.{length-map}
use Rattle.meaning.specs.declared.statement.Statement.TheVariants as statement
use Rattle.catalog.specs.FragmentLeaf.{schemas_of}
use Rattle.catalog.specs.Relation.{catalogue_of}
use Rattle.plan.specs.Postfix.{plan_of}
use Rattle.answers.specs.declared.finish.Outcome.{Outcome}
use Rattle.answers.specs.Outcome.{rows_changed}
use Rattle.answers.specs.Table.{AreParts, given}
use Rattle.answers.proofs.Statements.{refragment_right, refragment_rows}
use Rattle.answers.proofs.Worked.{each_read, table_of}
use Rattle.answers.proofs.work.refragment.Goals as goal

pub evaluate-requires-clause-parts : goal.evaluate-requires-clause-parts
evaluate-requires-clause-parts c =
    each_read (λ read. AreParts read.columns (given c.args.fetched.now read.leaf)) c.args.fetches.now (plan_of c.args.nodes.now) c.requires.parts c.requires.fetched

pub returns-clause-answer : goal.returns-clause-answer
returns-clause-answer c = λ of are finds whole fit brought.
    let catalogue = catalogue_of c.args.old.now in
    let is = table_of catalogue (statement.Refragment c.args.refragment.now) c.args.fetches.now (plan_of c.args.nodes.now) (given c.args.fetched.now) c.in_ok-table.table c.brought_is_read.ensures c.contents_give.ensures.reads c.relations-relations.ensures.formed of are finds c.in_ok-table.ensures whole fit brought in
    ap (λ (outcome : Outcome). outcome.answer) c.refragmented.ensures ∙ (refragment_right catalogue c.args.refragment.now whole c.in_ok-table.table of fit is).answered

pub returns-clause-moves : goal.returns-clause-moves
returns-clause-moves c = λ of are finds whole fit brought.
    let catalogue = catalogue_of c.args.old.now in
    let table = c.in_ok-table.table in
    let is = table_of catalogue (statement.Refragment c.args.refragment.now) c.args.fetches.now (plan_of c.args.nodes.now) (given c.args.fetched.now) table c.brought_is_read.ensures c.contents_give.ensures.reads c.relations-relations.ensures.formed of are finds c.in_ok-table.ensures whole fit brought in
    let wide : length of.relation.columns ≡ length c.args.refragment.now.relation.columns = sym (length-map of.relation.columns (λ column. column.name)) ∙ sym (ap length of.names) in
    c.in_ok-moves.ensures.moves of.relation of.there whole fit (ap (λ (n : ℕ). rows_changed n table) wide ∙ refragment_rows (schemas_of catalogue) c.args.refragment.now whole table of fit is)
