use Rattle.std.proofs.Common.{◌≡◌, List, false, add-one, map, refl, subst}
use Rattle.std.proofs.lemmas.List.{take_all}
use Rattle.std.proofs.lemmas.Result.{err_from_is_err_and}
use Rattle.meaning.specs.declared.schema.Column.{Column}
use Rattle.catalog.specs.Catalogue.{IsColumnText}
use Rattle.catalog.specs.Describes.{Each}
use Rattle.catalog.specs.Columns.{has_column, RefusesFit, IsFitFault}
use Rattle.catalog.proofs.Pairs.{each_next}
use Rattle.catalog.proofs.ColumnTexts.{next_of_columns, refuses_columns, refuses_relation, distinct_column}
use Rattle.catalog.proofs.TextBreaks.{column_break, fit_break}
use Rattle.catalog.proofs.column_texts.columns.Goals as goal

pub loop-text-preserved : goal.loop-text-preserved
loop-text-preserved c =
    let column = c.in_ok-column.column in
    let P : List Column → Type 0 = λ before. has_column before column.name ≡ false in
    let new : has_column c.loop-text.columns.items column.name ≡ false = subst P c.as_slice.ensures.value c.in_ok-column.ensures.new in
    record {
      each = rw (add-one, c.in_ok-push.ensures.items) (each_next IsColumnText (λ text. text.now) c.args.texts.now c.loop-text.text-index _ _ c.loop-text.columns.items column refl c.loop-text-test.true c.loop-text.invariant.each c.in_ok-column.ensures.says);
      distinct = rw c.in_ok-push.ensures.items (distinct_column c.loop-text.columns.items column c.loop-text.invariant.distinct new);
    }

pub returns-in_err-column-clause-none : goal.returns-in_err-column-clause-none
returns-in_err-column-clause-none c =
    let p = err_from_is_err_and c.from_residual.result c.from_residual.ensures.1 in
    rw (p.1, p.2) (refuses_columns (map (λ text. text.now) c.args.texts.now) c.as_slice.result.now _ c.in_err-column.field-0.0
    (next_of_columns (λ text. text.now) c.args.texts.now c.loop-text.text-index _ _ c.loop-text.columns.items c.as_slice.result.now refl c.loop-text-test.true c.as_slice.ensures.value c.loop-text.invariant.each)
    c.in_err-column.ensures.none)

pub returns-in_err-require_relation-clause-none : goal.returns-in_err-require_relation-clause-none
returns-in_err-require_relation-clause-none c =
    let p = err_from_is_err_and c.from_residual-in_err-require_relation.result c.from_residual-in_err-require_relation.ensures.1 in
    let P : List Column → Type 0 = λ columns. RefusesFit columns c.in_err-require_relation.field-0.0 in
    let Q : List _ → Type 0 = λ texts. Each IsColumnText (map (λ text. text.now) texts) c.loop-text.columns.items in
    rw (p.1, p.2) (refuses_relation (map (λ text. text.now) c.args.texts.now) c.loop-text.columns.items c.in_err-require_relation.field-0.0
    (subst Q (take_all c.loop-text.text-index c.args.texts.now c.loop-text-test.false) c.loop-text.invariant.each) (subst P c.as_slice-2.ensures.value c.in_err-require_relation.ensures.none))

pub returns-in_err-column-clause-breaks : goal.returns-in_err-column-clause-breaks
returns-in_err-column-clause-breaks c =
    let p = err_from_is_err_and c.from_residual.result c.from_residual.ensures.1 in
    rw (p.1, p.2) (column_break (λ text. text.now) c.args.texts.now c.loop-text.text-index _ _ c.as_slice.result.now c.loop-text.columns.items c.in_err-column.field-0.0 refl c.loop-text-test.true c.as_slice.ensures.value c.loop-text.invariant.each c.in_err-column.ensures.fault)

pub returns-in_err-require_relation-clause-breaks : goal.returns-in_err-require_relation-clause-breaks
returns-in_err-require_relation-clause-breaks c =
    let p = err_from_is_err_and c.from_residual-in_err-require_relation.result c.from_residual-in_err-require_relation.ensures.1 in
    let P : List Column → Type 0 = λ columns. IsFitFault columns c.in_err-require_relation.field-0.0 in
    let Q : List _ → Type 0 = λ texts. Each IsColumnText (map (λ text. text.now) texts) c.loop-text.columns.items in
    rw (p.1, p.2) (λ of_text. fit_break (map (λ text. text.now) c.args.texts.now) c.loop-text.columns.items c.in_err-require_relation.field-0.0
    (subst Q (take_all c.loop-text.text-index c.args.texts.now c.loop-text-test.false) c.loop-text.invariant.each) (subst P c.as_slice-2.ensures.value c.in_err-require_relation.ensures.fault))
