-- Why `plan_text::plan` meets its contract.
use Rattle.std.proofs.Common.{string_bytes, rules}
use Rattle.catalog.specs.Relation.{catalogue_of}
use Rattle.lines.proofs.PlanLemmas.{refused_text, shown_plan}
use Rattle.lines.proofs.plan_text.plan.Goals as goal

pub returns : goal.returns
returns g c =
    let catalogue = catalogue_of c.in_ok-catalog.catalog in
    let shown = c.in_ok-text.ensures.shown in
    shown_plan (g.R.Read.remaining c.args.input) c.args.tree c.args.file c.args.statement.now (g.W.Write.contents c.args.output.now) (g.W.Write.contents c.write_plan.new.output) catalogue shown.0
    (string_bytes c.in_ok-text.text) c.as_str.result.now c.write_plan.result c.in_ok-catalog.ensures.found c.in_ok-catalog.ensures.valid shown.1 shown.2
    (search rules) c.write_plan.ensures.written c.write_plan.ensures.faults

pub returns-in_err-text : goal.returns-in_err-text
returns-in_err-text g c =
    refused_text (g.R.Read.remaining c.args.input) c.args.tree c.args.file c.args.statement.now (g.W.Write.contents c.args.output.now) _ (catalogue_of c.in_ok-catalog.catalog) c.from_residual-in_err-text.result c.in_err-text.field-0.0 c.in_ok-catalog.ensures.found c.in_ok-catalog.ensures.valid (search rules) (search rules) (search rules)
