-- Why `joins::joins` meets its contract.
use Rattle.std.proofs.Common.{add-one, ◌≡◌, Some, None, subst}
use Rattle.std.proofs.lemmas.Result.{err_from_is_err_and}
use Rattle.reader.specs.declared.joins.Joined as code_joined
use Rattle.reader.specs.Breaks.{OnBreaks}
use Rattle.reader.specs.Names.{joined_of, join_of}
use Rattle.reader.proofs.Broken.{some_of}
use Rattle.reader.proofs.Each.{all_of_more, all_of_stop}
use Rattle.reader.proofs.NoMeaning.{none_of_whole}
use Rattle.reader.proofs.joins.joins.Goals as goal

pub returns-in_err-join-clause-exact : goal.returns-in_err-join-clause-exact
returns-in_err-join-clause-exact c =
    let p = err_from_is_err_and c.from_residual.result c.from_residual.ensures.1 in
    let P : code_joined.Joined → Type 0 = λ j. join_of c.args.scope.now (joined_of j) ≡ None in
    rw (p.1, p.2) (none_of_whole c.in_err-join.field-0.0.rule (join_of c.args.scope.now (joined_of c.joined-item.result)) _
    (λ none. all_of_stop (join_of c.args.scope.now) joined_of c.args.joined.now c.loop-joined.joined-index c.joined-item.result c.loop-joined-test.true (subst P c.joined-item.is none))
    c.in_err-join.ensures.exact)

pub returns-in_err-join-clause-rule : goal.returns-in_err-join-clause-rule
returns-in_err-join-clause-rule c =
    let p = err_from_is_err_and c.from_residual.result c.from_residual.ensures.1 in
    let P : code_joined.Joined → Type 0 = λ j. OnBreaks c.in_err-join.field-0.0.rule c.args.scope.now (joined_of j) in
    rw (p.1, p.2) (λ other. some_of (OnBreaks c.in_err-join.field-0.0.rule c.args.scope.now) joined_of c.args.joined.now c.loop-joined.joined-index c.joined-item.result c.loop-joined-test.true (subst P c.joined-item.is (c.in_err-join.ensures.rule other)))

pub loop-joined-preserved : goal.loop-joined-preserved
loop-joined-preserved c =
    let P : code_joined.Joined → Type 0 = λ j. join_of c.args.scope.now (joined_of j) ≡ Some c.in_ok-join.field-0 in
    rw (add-one, c.in_ok-push.ensures.items) (all_of_more (join_of c.args.scope.now) joined_of c.args.joined.now c.loop-joined.joined-index c.joined-item.result c.loop-joined.joins.items c.in_ok-join.field-0 c.loop-joined-test.true c.loop-joined.invariant (subst P c.joined-item.is c.in_ok-join.ensures.exact))
