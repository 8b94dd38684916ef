use Rattle.std.proofs.Common.{[], Bor, List, ℕ, map, option_map, ap, sym, subst, ◌∙◌, codes}
use Rattle.std.proofs.lemmas.Result.{err_from_is_err_and}
use Rattle.meaning.specs.declared.schema.Column.{Column}
use Rattle.toml.specs.View.{view}
use Rattle.catalog.specs.Catalogue.{IsColumnText}
use Rattle.catalog.specs.Describes.{Each}
use Rattle.catalog.specs.Form.{texts_of}
use Rattle.catalog.specs.Breaks.{ColumnsBreak}
use Rattle.catalog.specs.Node.{form_of}
use Rattle.catalog.specs.NodeBreaks.{NodeBreaks}
use Rattle.catalog.proofs.TextBreaks.{list_breaks, tree_breaks}
use Rattle.catalog.specs.Path.{columns_beside_key}
use Rattle.catalog.specs.Refuses.{Refuses}
use Rattle.catalog.proofs.RelationTexts.{refuses_tree}
use Rattle.catalog.proofs.relation.relation.Goals as goal

pub returns-in_err-split-clause-none : goal.returns-in_err-split-clause-none
returns-in_err-split-clause-none c =
    let p = err_from_is_err_and c.from_residual-in_err-split.result c.from_residual-in_err-split.ensures.1 in
    let rule = c.in_err-split.field-0.0 in
    let sites = c.args.sites.now in
    let node = view c.args.node.now in
    let P : List (Bor (List ℕ)) → Type 0 = λ texts. Each IsColumnText (map (λ text. text.now) texts) c.in_ok-columns.columns.items in
    let Q : List Column → Type 0 = λ columns. Refuses (record { sites = sites; columns = columns }) 4 [] (columns_beside_key (map (λ column. column.kind) columns)) (codes "columns") node 0 rule in
    rw (p.1, p.2) (refuses_tree sites (c.args.name.now, node) (texts_of c.in-Some.texts) c.in_ok-columns.columns.items rule
    (sym c.in_ok-texts.ensures ∙ ap (option_map texts_of) c.in-Some.is)
    (subst P c.as_slice.ensures.value c.in_ok-columns.ensures.found.each)
    (subst Q c.as_slice-2.ensures.value c.in_err-split.ensures.none))

pub returns-in_err-columns-clause-breaks : goal.returns-in_err-columns-clause-breaks
returns-in_err-columns-clause-breaks c =
    let p = err_from_is_err_and c.from_residual-in_err-columns.result c.from_residual-in_err-columns.ensures.1 in
    let P : List (Bor (List ℕ)) → Type 0 = λ texts. ColumnsBreak c.in_err-columns.field-0.0 (map (λ text. text.now) texts) in
    rw (p.1, p.2) (λ of_text. list_breaks c.in_err-columns.field-0.0 c.args.sites.now c.args.name.now (view c.args.node.now) (texts_of c.in-Some.texts)
    (sym c.in_ok-texts.ensures ∙ ap (option_map texts_of) c.in-Some.is) (subst P c.as_slice.ensures.value (c.in_err-columns.ensures.breaks of_text)))

pub returns-in_err-split-clause-breaks : goal.returns-in_err-split-clause-breaks
returns-in_err-split-clause-breaks c =
    let p = err_from_is_err_and c.from_residual-in_err-split.result c.from_residual-in_err-split.ensures.1 in
    let rule = c.in_err-split.field-0.0 in
    let sites = c.args.sites.now in
    let node = view c.args.node.now in
    let P : List (Bor (List ℕ)) → Type 0 = λ texts. Each IsColumnText (map (λ text. text.now) texts) c.in_ok-columns.columns.items in
    let Q : List Column → Type 0 = λ columns. NodeBreaks rule (record { sites = sites; columns = columns }) 4 [] (columns_beside_key (map (λ column. column.kind) columns)) (form_of (codes "columns") node) 0 in
    rw (p.1, p.2) (λ of_text. tree_breaks rule sites c.args.name.now node (texts_of c.in-Some.texts) c.in_ok-columns.columns.items
    (sym c.in_ok-texts.ensures ∙ ap (option_map texts_of) c.in-Some.is) (subst P c.as_slice.ensures.value c.in_ok-columns.ensures.found.each) (subst Q c.as_slice-2.ensures.value (c.in_err-split.ensures.breaks of_text)))
