use Rattle.std.proofs.Common.{◌*◌, List, length, min, ap, ◌∙◌}
use Rattle.terms.specs.declared.value.Value.{Value}
use Rattle.catalog.proofs.CellCount.{one_more}
use Rattle.catalog.proofs.exact.are_few.Goals as goal

pub loop-values-preserved : goal.loop-values-preserved
loop-values-preserved c =
    let so_far = c.loop-values in
    let same = ap (λ (values : List Value). min (so_far.cells * length values) 18446744073709551615) (c.as_slice.ensures ∙ c.values-item.is) in
    one_more c.args.columns.now so_far.values-index c.values-item.result so_far.cells c.saturating_mul-cells.result c.loop-values-test.true (c.saturating_mul-cells.ensures ∙ same) so_far.invariant
