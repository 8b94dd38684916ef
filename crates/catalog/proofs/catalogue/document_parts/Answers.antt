use Rattle.std.proofs.Common.{option_map, ap, sym, ◌∙◌}
use Rattle.toml.specs.View.{view, table_view}
use Rattle.catalog.specs.Form.{texts_of}
use Rattle.catalog.proofs.DocumentParts.{no_parts, two_parts, seen}
use Rattle.catalog.proofs.catalogue.document_parts.Goals as goal

pub returns-then-len-ne2 : goal.returns-then-len-ne2
returns-then-len-ne2 c =
    no_parts c.in-Some.document.now.entries (view c.args.root.now) (ap (option_map (λ m. table_view m.now)) (sym c.in-Some.is) ∙ c.as_table.ensures) (λ two. c.if-len-ne2.true (c.len.ensures.len ∙ two))

pub returns-in-Some-2 : goal.returns-in-Some-2
returns-in-Some-2 c =
    two_parts c.in-Some.document.now.entries (view c.args.root.now) (view c.in-Some-Some.listed.now) (view c.in-Some-Some.relations.now) (texts_of c.in-Some-2.sites) (table_view c.in-Some-as_table.relations.now)
    (ap (option_map (λ m. table_view m.now)) (sym c.in-Some.is) ∙ c.as_table.ensures) (sym c.len.ensures.len ∙ c.if-len-ne2.false)
    (seen c.get.result _ c.in-Some-Some.listed c.get.ensures c.in-Some-Some.is-0)
    (sym c.in_ok-sites.ensures ∙ ap (option_map texts_of) c.in-Some-2.is)
    (seen c.get-2.result _ c.in-Some-Some.relations c.get-2.ensures c.in-Some-Some.is-1)
    (sym c.as_table-2.ensures ∙ ap (option_map (λ m. table_view m.now)) c.in-Some-as_table.is)
