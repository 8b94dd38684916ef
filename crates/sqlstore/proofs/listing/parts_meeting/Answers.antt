use Rattle.std.proofs.Common.{rules, ap, ◌∙◌, filter}
use Rattle.std.proofs.lemmas.Fn.{filter_same}
use Rattle.terms.specs.Cond.{conds_hold}
use Rattle.sqlstore.proofs.listing.parts_meeting.Goals as goal

pub returns-clause-parts : goal.returns-clause-parts
returns-clause-parts c =
    filter_same _ (conds_hold c.args.conds.now) _ (λ x b f' k. search rules) _ _ c.retain.ensures.filtered
    ∙ ap (filter (conds_hold c.args.conds.now)) c.in-Ok.ensures.parts
