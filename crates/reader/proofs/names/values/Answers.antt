-- Why `names::values` meets its contract.
use Rattle.std.proofs.Common.{add-one, ◌<◌, length, arith}
use Rattle.std.proofs.lemmas.Result.{err_from_is_err_and}
use Rattle.reader.specs.Tree.{constant_tree}
use Rattle.reader.proofs.Broken.{some_value}
use Rattle.reader.proofs.Each.{row_of_more, row_of_stop}
use Rattle.reader.proofs.NoMeaning.{none_of_whole}
use Rattle.reader.proofs.names.values.Goals as goal

pub returns-in_err-value-clause-exact : goal.returns-in_err-value-clause-exact
returns-in_err-value-clause-exact c =
    let p = err_from_is_err_and c.from_residual.result c.from_residual.ensures.1 in
    let within : c.loop-place.place < length c.args.columns.now = omega arith in
    rw (p.1, p.2) (none_of_whole c.in_err-value.field-0.0.rule _ _ (row_of_stop (λ c. c.kind) constant_tree c.args.columns.now c.args.constants.now c.loop-place.place _ _ within c.loop-place-test.true) c.in_err-value.ensures.exact)

pub loop-place-preserved : goal.loop-place-preserved
loop-place-preserved c =
    let within : c.loop-place.place < length c.args.columns.now = omega arith in
    rw (add-one, c.in_ok-push.ensures.items) (row_of_more (λ c. c.kind) constant_tree c.args.columns.now c.args.constants.now c.loop-place.place _ _ c.loop-place.values.items c.in_ok-value.field-0 within c.loop-place-test.true c.loop-place.invariant c.in_ok-value.ensures.exact)

pub returns-in_err-value-clause-rule : goal.returns-in_err-value-clause-rule
returns-in_err-value-clause-rule c =
    let p = err_from_is_err_and c.from_residual.result c.from_residual.ensures.1 in
    let within : c.loop-place.place < length c.args.columns.now = omega arith in
    rw (p.1, p.2) (λ other. some_value c.in_err-value.field-0.0.rule (λ c. c.kind) constant_tree c.args.columns.now c.args.constants.now c.loop-place.place _ _ within c.loop-place-test.true (c.in_err-value.ensures.rule other))
