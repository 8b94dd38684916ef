use Rattle.std.proofs.Common.{◌≡◌, not, [], ◌∷◌, ◌++◌, ap, sym, ◌∙◌, append_assoc}
use Rattle.toml.specs.View.{members_view, table_view}
use Rattle.catalog.specs.Catalogue.{entries}
use Rattle.catalog.specs.Document.{are_tables}
use Rattle.catalog.proofs.CatalogueTexts.{not_all, all_also, some_of}
use Rattle.catalog.proofs.Entries.{Entry, entries_both}
use Rattle.catalog.proofs.catalogue.are_tables.Goals as goal

pub returns-then-is_none : goal.returns-then-is_none
returns-then-is_none c =
    let l = c.loop-name in
    let done = l.invariant.0 in
    let e : Entry = (c.in-Some._name.now, c.in-Some.node.now) in
    let left = c.next.new.self in
    let all : c.args.table.now.entries ≡ done ++ e ∷ left = l.invariant.1 ∙ ap (λ es. done ++ es) c.in-Some.ensures.steps in
    let none = some_of (λ m. table_view m.now) c.as_table.result _ c.is_none.result c.as_table.ensures c.is_none.ensures ∙ ap not c.if-is_none.true in
    sym (ap are_tables (ap (λ es. entries (members_view es)) all ∙ entries_both done e left) ∙ not_all (entries (members_view done)) (entries (members_view left)) _ none)

pub loop-name-preserved : goal.loop-name-preserved
loop-name-preserved c =
    let l = c.loop-name in
    let done = l.invariant.0 in
    let e : Entry = (c.in-Some._name.now, c.in-Some.node.now) in
    let left = c.next.new.self in
    let all : c.args.table.now.entries ≡ done ++ e ∷ left = l.invariant.1 ∙ ap (λ es. done ++ es) c.in-Some.ensures.steps in
    let some = some_of (λ m. table_view m.now) c.as_table.result _ c.is_none.result c.as_table.ensures c.is_none.ensures ∙ ap not c.if-is_none.false in (
      done ++ e ∷ [],
      all ∙ sym (append_assoc done (e ∷ []) left),
      ap are_tables (entries_both done e []) ∙ all_also (entries (members_view done)) _ l.invariant.2 some,
    )
