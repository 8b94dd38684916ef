use Rattle.std.proofs.Common.{◌≡◌, ℕ, List, arith, ap, ap₂, max, slice_get, sym, get_or, ◌∙◌}
use Rattle.std.proofs.lemmas.List.Sums.{fold_more}
use Rattle.terms.specs.declared.value.Value.{Value}
use Rattle.forms.specs.Columns.{field_width, width_of}
use Rattle.forms.proofs.columns.width_at.Goals as goal

pub loop-row-preserved : goal.loop-row-preserved
loop-row-preserved c =
    let wider : ℕ → List Value → ℕ = λ width row. max width (field_width (slice_get row c.args.place)) in
    let row : c.values.result.now ≡ get_or c.args.rows.now c.loop-row.row-index c.row-item.result = c.values.ensures ∙ c.row-item.is in
    let width : c.in_ok-field_width.field-0 ≡ field_width (slice_get (get_or c.args.rows.now c.loop-row.row-index c.row-item.result) c.args.place) =
    c.in_ok-field_width.ensures ∙ ap (λ values. field_width (slice_get values c.args.place)) row in
    c.max-width.ensures ∙ ap₂ max c.loop-row.invariant width ∙ sym (fold_more wider (width_of c.args.name.now) c.args.rows.now c.loop-row.row-index c.row-item.result (omega arith))
