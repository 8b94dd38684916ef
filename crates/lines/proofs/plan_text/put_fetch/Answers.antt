-- Why `plan_text::put_fetch` meets its contract.
use Rattle.std.proofs.Common.{◌++◌, ap, arith, string_bytes, rules, ◌∙◌}
use Rattle.lines.specs.Check.{names_of_columns, where_text}
use Rattle.lines.proofs.PlanLemmas.{fetch_of_parts}
use Rattle.lines.proofs.plan_text.put_fetch.Goals as goal

pub returns : goal.returns
returns c =
    let told = c.in_ok-put_where.ensures ∙ ap (λ columns. string_bytes c.put_site_of.new.out ++ where_text (names_of_columns columns) c.args.fetch.now.conds) (search rules) in
    let ended = c.in_ok-push.ensures.bytes ∙ ap (λ mark. string_bytes c.put_where.new.out ++ mark) (c.in_ok-push.ensures.ascii (omega arith)) in
    fetch_of_parts _ _ _ _ _ _ _ _ c.in_ok-write.ensures.bytes c.in_ok-put_site_of.ensures told ended
