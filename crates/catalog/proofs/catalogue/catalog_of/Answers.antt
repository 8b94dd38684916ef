use Rattle.std.proofs.Common.{List, ℕ, Bor, map, option_map, ap, sym, subst, ◌∙◌}
use Rattle.toml.specs.View.{view, table_view, members_view}
use Rattle.catalog.specs.declared.fault.Rule.{Rule}
use Rattle.catalog.specs.Catalogue.{Catalogue, IsRelationIn, IsDocumentOf, entries}
use Rattle.catalog.specs.Describes.{Each}
use Rattle.catalog.specs.Document.{RefusesRoot, TellsRelation, TellsRoot, parts_of}
use Rattle.catalog.specs.Refusal.{RefusesBy}
use Rattle.catalog.proofs.Splits.{err_is}
use Rattle.catalog.proofs.Told.{NoHead, head_read, many_entries_head, tells_none, tells_relation}
use Rattle.catalog.specs.Form.{texts_of}
use Rattle.catalog.specs.Relation.{relation_of, catalogue_of}
use Rattle.catalog.specs.declared.relation.SplitRelation as code
use Rattle.catalog.specs.Sites.{AreSites}
use Rattle.catalog.proofs.FormedCatalogues.{formed}
use Rattle.catalog.proofs.CatalogueTexts.{no_tables, too_many_entries, catalogue_is}
use Rattle.catalog.proofs.TextBreaks.{too_many_relations}
use Rattle.catalog.proofs.catalogue.catalog_of.Goals as goal

pub returns-then-not-are_tables-clause-none : goal.returns-then-not-are_tables-clause-none
returns-then-not-are_tables-clause-none c =
    let P : Rule → Type 0 = RefusesRoot (view c.args.root.now) c.new-then-not-are_tables.result.relation in
    subst P (sym c.new-then-not-are_tables.ensures.rule) (no_tables (view c.args.root.now) (texts_of c.in-Some.parts.sites) (table_view c.in-Some.parts.relations.now)
    (ap (option_map parts_of) (sym c.in-Some.is) ∙ c.in_ok-parts.ensures) (sym c.are_tables.ensures ∙ c.if-not-are_tables.true))

pub returns-then-count-gt-RELATIONS-clause-none : goal.returns-then-count-gt-RELATIONS-clause-none
returns-then-count-gt-RELATIONS-clause-none c =
    let P : Rule → Type 0 = RefusesRoot (view c.args.root.now) c.new-then-count-gt-RELATIONS.result.relation in
    subst P (sym c.new-then-count-gt-RELATIONS.ensures.rule) (too_many_entries (view c.args.root.now) (texts_of c.in-Some.parts.sites) c.in-Some.parts.relations.now.entries
    (ap (option_map parts_of) (sym c.in-Some.is) ∙ c.in_ok-parts.ensures) (rw (← c.len-count.ensures.len) c.if-count-gt-RELATIONS.true))

pub returns-clause-found : goal.returns-clause-found
returns-clause-found c =
    let same = ap (map (λ (text : Bor (List ℕ)). text.now)) c.as_slice.ensures.value in
    let P : List (List ℕ) → Type 0 = AreSites in
    let Q : List (List ℕ) → Type 0 = λ sites. Each (IsRelationIn sites) (entries (table_view c.in-Some.parts.relations.now)) (map relation_of c.in_ok-relations.relations.items) in
    let S : List (List ℕ) × List code.SplitRelation → Type 0 = λ catalog. IsDocumentOf (view c.args.root.now) (catalogue_of catalog) in
    subst S (sym c.in_ok-with_leaves.ensures) (
    catalogue_is (view c.args.root.now) (texts_of c.in-Some.parts.sites) c.in-Ok.sites.items c.in-Some.parts.relations.now.entries (map relation_of c.in_ok-relations.relations.items)
    (ap (option_map parts_of) (sym c.in-Some.is) ∙ c.in_ok-parts.ensures) (c.in-Ok.ensures.found.0 ∙ same) (subst P same c.in-Ok.ensures.found.1)
    (subst Q c.as_slice-2.ensures.value c.in_ok-relations.ensures.found) (λ none. c.if-count-eq0.false (c.len-count.ensures.len ∙ none)) (rw (← c.len-count.ensures.len) c.if-count-gt-RELATIONS.false))

pub with_leaves-requires-clause-formed : goal.with_leaves-requires-clause-formed
with_leaves-requires-clause-formed c =
    let catalogue : Catalogue = record { sites = c.in-Ok.sites.items; relations = map relation_of c.in_ok-relations.relations.items } in
    let same = ap (map (λ (text : Bor (List ℕ)). text.now)) c.as_slice.ensures.value in
    let P : List (List ℕ) → Type 0 = AreSites in
    let Q : List (List ℕ) → Type 0 = λ sites. Each (IsRelationIn sites) (entries (table_view c.in-Some.parts.relations.now)) (map relation_of c.in_ok-relations.relations.items) in
    let each = subst Q c.as_slice-2.ensures.value c.in_ok-relations.ensures.found in
    formed c.conds_of_a_text_fit.ensures (view c.args.root.now) c.in-Some.parts.relations.now.entries catalogue (
    catalogue_is (view c.args.root.now) (texts_of c.in-Some.parts.sites) c.in-Ok.sites.items c.in-Some.parts.relations.now.entries (map relation_of c.in_ok-relations.relations.items)
    (ap (option_map parts_of) (sym c.in-Some.is) ∙ c.in_ok-parts.ensures) (c.in-Ok.ensures.found.0 ∙ same) (subst P same c.in-Ok.ensures.found.1)
    each (λ none. c.if-count-eq0.false (c.len-count.ensures.len ∙ none)) (rw (← c.len-count.ensures.len) c.if-count-gt-RELATIONS.false))
    c.in_ok-relations.ensures.valid each c.len-count.ensures.ordered

pub returns-then-count-gt-RELATIONS-clause-told : goal.returns-then-count-gt-RELATIONS-clause-told
returns-then-count-gt-RELATIONS-clause-told c =
    let root = view c.args.root.now in
    let fault = c.new-then-count-gt-RELATIONS.result in
    let P : Rule → Type 0 = λ rule. RefusesBy ⊥ (NoHead root) rule in
    tells_none root fault.relation fault.rule c.new-then-count-gt-RELATIONS.ensures.relation (subst P (sym c.new-then-count-gt-RELATIONS.ensures.rule)
    (many_entries_head root (texts_of c.in-Some.parts.sites) c.in-Some.parts.relations.now.entries (ap (option_map parts_of) (sym c.in-Some.is) ∙ c.in_ok-parts.ensures) (rw (← c.len-count.ensures.len) c.if-count-gt-RELATIONS.true)))

pub returns-in_err-relations-clause-told : goal.returns-in_err-relations-clause-told
returns-in_err-relations-clause-told c =
    let root = view c.args.root.now in
    let texts = texts_of c.in-Some.parts.sites in
    let es = c.in-Some.parts.relations.now.entries in
    let fault = c.in_err-relations.field-0.0 in
    let same = ap (map (λ (text : Bor (List ℕ)). text.now)) c.as_slice.ensures.value in
    let P : List (List ℕ) → Type 0 = AreSites in
    let Q : List (List ℕ) → Type 0 = λ sites. TellsRelation sites (entries (table_view c.in-Some.parts.relations.now)) fault.relation fault.rule in
    let head = head_read root texts es (ap (option_map parts_of) (sym c.in-Some.is) ∙ c.in_ok-parts.ensures) (sym c.are_tables.ensures ∙ c.if-not-are_tables.false) (subst P same c.in-Ok.ensures.found.1)
    (λ none. c.if-count-eq0.false (c.len-count.ensures.len ∙ none)) (rw (← c.len-count.ensures.len) c.if-count-gt-RELATIONS.false) in
    err_is c.from_residual-in_err-relations.result (λ one. TellsRoot root one.relation one.rule) fault c.from_residual-in_err-relations.ensures.1
    (tells_relation root texts (members_view es) fault.relation fault.rule head (subst Q (c.as_slice-2.ensures.value ∙ c.in-Ok.ensures.found.0 ∙ same) c.in_err-relations.ensures.told))

pub returns-then-count-gt-RELATIONS-clause-breaks : goal.returns-then-count-gt-RELATIONS-clause-breaks
returns-then-count-gt-RELATIONS-clause-breaks c of_text =
    too_many_relations (view c.args.root.now) (texts_of c.in-Some.parts.sites) c.in-Some.parts.relations.now.entries c.new-then-count-gt-RELATIONS.result.rule c.new-then-count-gt-RELATIONS.ensures.rule
    (ap (option_map parts_of) (sym c.in-Some.is) ∙ c.in_ok-parts.ensures) (rw (← c.len-count.ensures.len) c.if-count-gt-RELATIONS.true)
