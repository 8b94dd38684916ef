-- Why `row::values` meets its contract.
use Rattle.std.proofs.Common.{ℕ, List, Bor, Vec, Global, Ok, map, ap, sym, ◌∙◌}
use Rattle.terms.specs.declared.value.Value.{Value}
use Rattle.exchange.specs.Row.{column_value}
use Rattle.exchange.proofs.Eaches.{each_more}
use Rattle.exchange.proofs.Rows.{column_is, handed_on, values_refused}
use Rattle.exchange.proofs.row.values.Goals as goal

pub returns-in_err-in_column : goal.returns-in_err-in_column
returns-in_err-in_column c =
    let fields : List (List ℕ) = map (λ (field : Bor (List ℕ)). field.now) c.args.fields.now in
    let same = column_is c.args.columns.now c.args.order.now fields c.loop-number.number c.index-columns-number.result c.field_of-field.result.now c.index-columns-number.is c.field_of-field.ensures in
    handed_on (λ (values : Vec Value Global). values.items) c.from_residual-in_err-in_column.result c.in_err-in_column.field-0.0 _ c.from_residual-in_err-in_column.ensures.1
    (values_refused (λ (values : Vec Value Global). values.items) (column_value c.args.order.now fields) c.args.columns.now c.loop-number.number c.index-columns-number.result c.loop-number.values.items c.in_err-in_column.field-0.0 _ c.loop-number-test.true c.loop-number.invariant c.in_err-in_column.ensures same)

pub loop-number-preserved : goal.loop-number-preserved
loop-number-preserved c =
    let fields : List (List ℕ) = map (λ (field : Bor (List ℕ)). field.now) c.args.fields.now in
    let same = column_is c.args.columns.now c.args.order.now fields c.loop-number.number c.index-columns-number.result c.field_of-field.result.now c.index-columns-number.is c.field_of-field.ensures in
    each_more (column_value c.args.order.now fields) c.args.columns.now c.loop-number.number c.index-columns-number.result c.loop-number.values.items c.in_ok-in_column.field-0 c.loop-number-test.true c.loop-number.invariant
    (sym same ∙ c.in_ok-in_column.ensures) ∙ ap Ok (sym c.in_ok-push.ensures.items)
