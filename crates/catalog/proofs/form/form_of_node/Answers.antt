use Rattle.std.proofs.Common.{option_map, ap, sym, ◌∙◌, refl}
use Rattle.toml.specs.View.{view, table_view}
use Rattle.catalog.proofs.Nodes.{form_of_two, form_of_ill, there_of, not_both}
use Rattle.catalog.proofs.form.form_of_node.Goals as goal

pub returns-then-is_there : goal.returns-then-is_there
returns-then-is_there c =
    c.split_form.ensures ∙ form_of_two c.args.beside.now c.in-Some.table.now.entries (view c.args.node.now) (ap (option_map (λ m. table_view m.now)) (sym c.in-Some.is) ∙ c.as_table.ensures)
    (sym c.len.ensures.len ∙ c.if-len-eq2.true) (there_of c.get.result _ _ c.get.ensures c.is_some-is_there.ensures ∙ c.if-is_there.true)

pub returns-else-len-eq2 : goal.returns-else-len-eq2
returns-else-len-eq2 c =
    form_of_ill c.args.beside.now c.in-Some.table.now.entries (view c.args.node.now) _ _ (ap (option_map (λ m. table_view m.now)) (sym c.in-Some.is) ∙ c.as_table.ensures) refl (there_of c.get.result _ _ c.get.ensures c.is_some-is_there.ensures)
    (rw (← c.len.ensures.len) (not_both c.len.result c.is_some-is_there.result c.else-len-eq2.either))
