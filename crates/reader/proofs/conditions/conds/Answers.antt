-- Why `conditions::conds` meets its contract.
use Rattle.std.proofs.Common.{add-one, ◌+◌, ap, ◌∙◌, arith, inl, inr}
use Rattle.std.proofs.lemmas.Result.{err_from_is_err_and}
use Rattle.reader.specs.Breaks.{ConditionBreaks}
use Rattle.reader.specs.Tree.{condition_tree}
use Rattle.reader.proofs.Broken.{some_of}
use Rattle.reader.proofs.WrittenConditions.{no_column, no_constant, one_more}
use Rattle.reader.proofs.NoMeaning.{none_of_whole}
use Rattle.reader.proofs.conditions.conds.Goals as goal

pub returns-in_err-found-clause-exact : goal.returns-in_err-found-clause-exact
returns-in_err-found-clause-exact c =
    let p = err_from_is_err_and c.from_residual.result c.from_residual.ensures.1 in
    rw (p.1, p.2) (none_of_whole c.in_err-found.field-0.0.rule _ _
    (λ none. no_column c.args.scope.now c.args.conditions.now c.loop-condition.condition-index _ c.loop-condition-test.true none)
    c.in_err-found.ensures.exact)

pub returns-in_err-cond-clause-exact : goal.returns-in_err-cond-clause-exact
returns-in_err-cond-clause-exact c =
    let p = err_from_is_err_and c.from_residual-in_err-cond.result c.from_residual-in_err-cond.ensures.1 in
    rw (p.1, p.2) (none_of_whole c.in_err-cond.field-0.0.rule _ _
    (λ none. no_constant c.args.scope.now c.args.conditions.now c.loop-condition.condition-index _ c.in_ok-found.found c.loop-condition-test.true c.in_ok-found.ensures.exact none)
    c.in_err-cond.ensures.exact)

pub loop-condition-preserved : goal.loop-condition-preserved
loop-condition-preserved c = record {
  found = rw (add-one, c.in_ok-push.ensures.items) (one_more c.args.scope.now c.args.conditions.now c.loop-condition.condition-index _ c.in_ok-found.found c.loop-condition.conds.items c.in_ok-cond.field-0 c.loop-condition-test.true c.loop-condition.invariant.found c.in_ok-found.ensures.exact c.in_ok-cond.ensures.exact);
  count = c.in_ok-push.ensures.len ∙ ap (λ n. n + 1) c.loop-condition.invariant.count;
  few = omega arith;
}

pub returns-in_err-found-clause-rule : goal.returns-in_err-found-clause-rule
returns-in_err-found-clause-rule c =
    let p = err_from_is_err_and c.from_residual.result c.from_residual.ensures.1 in
    rw (p.1, p.2) (λ other. inl (some_of (ConditionBreaks c.in_err-found.field-0.0.rule c.args.scope.now) condition_tree c.args.conditions.now c.loop-condition.condition-index _ c.loop-condition-test.true (inl c.in_err-found.ensures.rule)))

pub returns-in_err-cond-clause-rule : goal.returns-in_err-cond-clause-rule
returns-in_err-cond-clause-rule c =
    let p = err_from_is_err_and c.from_residual-in_err-cond.result c.from_residual-in_err-cond.ensures.1 in
    rw (p.1, p.2) (λ other. inl (some_of (ConditionBreaks c.in_err-cond.field-0.0.rule c.args.scope.now) condition_tree c.args.conditions.now c.loop-condition.condition-index _ c.loop-condition-test.true
    (inr (c.in_ok-found.found, c.in_ok-found.ensures.exact, c.in_err-cond.ensures.rule other))))
