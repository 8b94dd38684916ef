use Rattle.std.proofs.Common.{◌++◌, ◌∷◌, [], List, filter, ap, ◌∙◌}
use Rattle.terms.specs.declared.value.Value.{Value}
use Rattle.terms.specs.TestValues.{column_holds}
use Rattle.catalog.proofs.Seeking.{column_on_way}
use Rattle.catalog.proofs.exact.columns_on_way.Goals as goal

pub loop-col-preserved : goal.loop-col-preserved
loop-col-preserved c =
    let so_far = c.loop-col.kept.items in
    let filtered = c.in_ok-values.ensures ∙ ap (λ (values : List Value). filter (column_holds c.args.way.now c.loop-col.col) values) c.as_slice.ensures in
    let pushed = c.in_ok-push.ensures.items ∙ ap (λ (values : List Value). so_far ++ values ∷ []) c.new.ensures in
    column_on_way c.args.way.now c.args.columns.now c.loop-col.col c.index-columns-col.result so_far c.push.new.self.items c.in_ok-values.values.items c.loop-col-test.true c.index-columns-col.is c.loop-col.invariant filtered pushed
