-- Why `conditions::listed_places` meets its contract.
use Rattle.std.proofs.Common.{add-one, ◌+◌, leb, length, option_map, ap, ◌∙◌, arith, inl}
use Rattle.std.proofs.lemmas.Result.{err_from_is_err_and}
use Rattle.reader.specs.declared.scope.Found.{Found}
use Rattle.reader.specs.Names.{place_in}
use Rattle.reader.specs.Tree.{column_tree}
use Rattle.reader.specs.Breaks.{ColumnBreaks}
use Rattle.reader.proofs.Broken.{some_of}
use Rattle.reader.proofs.Chains.{limited}
use Rattle.reader.proofs.Each.{all_of_more, all_of_stop}
use Rattle.reader.proofs.NoMeaning.{none_of_whole}
use Rattle.reader.proofs.conditions.listed_places.Goals as goal

pub returns-in_err-found-clause-exact : goal.returns-in_err-found-clause-exact
returns-in_err-found-clause-exact c =
    let p = err_from_is_err_and c.from_residual.result c.from_residual.ensures.1 in
    rw (p.1, p.2) (none_of_whole c.in_err-found.field-0.0.rule _ _
    (λ none. limited (leb (length c.args.columns.now) 32) _ (all_of_stop (place_in c.args.scope.now) column_tree c.args.columns.now c.loop-column.column-index _ c.loop-column-test.true (ap (option_map (λ (f : Found). f.place)) none)))
    c.in_err-found.ensures.exact)

pub loop-column-preserved : goal.loop-column-preserved
loop-column-preserved c = record {
  found = rw (add-one, c.in_ok-push.ensures.items) (all_of_more (place_in c.args.scope.now) column_tree c.args.columns.now c.loop-column.column-index _ c.loop-column.places.items c.in_ok-found.found.place c.loop-column-test.true c.loop-column.invariant.found (ap (option_map (λ (f : Found). f.place)) c.in_ok-found.ensures.exact));
  count = c.in_ok-push.ensures.len ∙ ap (λ n. n + 1) c.loop-column.invariant.count;
  few = omega arith;
}

pub returns-in_err-found-clause-rule : goal.returns-in_err-found-clause-rule
returns-in_err-found-clause-rule c =
    let p = err_from_is_err_and c.from_residual.result c.from_residual.ensures.1 in
    rw (p.1, p.2) (λ other. inl (some_of (ColumnBreaks c.in_err-found.field-0.0.rule c.args.scope.now) column_tree c.args.columns.now c.loop-column.column-index _ c.loop-column-test.true c.in_err-found.ensures.rule))
