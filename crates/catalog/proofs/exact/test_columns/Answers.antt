use Rattle.std.proofs.Common.{◌++◌, ◌∷◌, [], List, ap, ◌∙◌}
use Rattle.terms.specs.declared.value.Value.{Value}
use Rattle.catalog.proofs.TestColumns.{one_column}
use Rattle.catalog.proofs.exact.test_columns.Goals as goal

pub loop-col-preserved : goal.loop-col-preserved
loop-col-preserved c =
    let so_far = c.loop-col in
    let values = c.in_ok-values in
    let pushed = c.in_ok-push.ensures.items ∙ ap (λ (v : List Value). so_far.columns.items ++ v ∷ []) c.new.ensures in
    one_column c.args.conds.now c.args.kinds.now so_far.columns.items c.push.new.self.items so_far.col _ values.values.items c.loop-col-test.true pushed (record { ascending = values.ensures.ascending; members = values.ensures.members }) so_far.invariant
