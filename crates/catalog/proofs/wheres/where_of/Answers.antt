use Rattle.std.proofs.Common.{ap, sym, ◌∙◌, option_map}
use Rattle.toml.specs.View.{view}
use Rattle.catalog.proofs.BranchConds.{refuses_where}
use Rattle.catalog.proofs.NodeBreaks.{where_breaks}
use Rattle.catalog.proofs.wheres.where_of.Goals as goal

pub returns-in-Err-clause-none : goal.returns-in-Err-clause-none
returns-in-Err-clause-none c =
    rw (c.rule_of.ensures, c.rule.ensures) (refuses_where c.args.columns.now (view c.args.node.now) c.in-Some.text.now c.in-Err.fault.rule
    (sym c.text_at.ensures ∙ ap (option_map (λ text. text.now)) c.in-Some.is) c.in-Err.ensures.none)

pub returns-in-Err-clause-breaks : goal.returns-in-Err-clause-breaks
returns-in-Err-clause-breaks c =
    rw (c.rule_of.ensures, c.rule.ensures) (where_breaks c.args.columns.now (view c.args.node.now) c.in-Some.text.now c.in-Err.fault.rule
    (sym c.text_at.ensures ∙ ap (option_map (λ text. text.now)) c.in-Some.is) c.in-Err.ensures.rule)
