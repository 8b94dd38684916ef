use Rattle.std.proofs.Common.{add-one, map}
use Rattle.std.specs.List.{AllByRecursion}
use Rattle.std.proofs.lemmas.Result.{err_from_is_err_and}
use Rattle.terms.specs.Cond.{IsCondOf}
use Rattle.reader.specs.Scope.{types}
use Rattle.toml.specs.View.{view}
use Rattle.catalog.specs.Describes.{IsWhereOn}
use Rattle.catalog.specs.NodeBreaks.{WhereBreaks}
use Rattle.catalog.proofs.NodeBreaks.{some_taken}
use Rattle.catalog.proofs.Pairs.{each_next, each_none}
use Rattle.catalog.proofs.BranchConds.{refuses_conds, all_more}
use Rattle.catalog.proofs.wheres.conds_on.Goals as goal

pub returns-in_err-where_of-clause-none : goal.returns-in_err-where_of-clause-none
returns-in_err-where_of-clause-none c =
    let p = err_from_is_err_and c.from_residual.result c.from_residual.ensures.1 in
    rw (p.1, p.2) (refuses_conds c.args.columns.now (map view c.args.nodes.now) _ c.in_err-where_of.field-0.0 c.in_err-where_of.ensures.none
    (λ none. each_none (IsWhereOn c.args.columns.now) view c.args.nodes.now c.loop-node.node-index _ _ c.node-item.is c.loop-node-test.true none))

pub loop-node-preserved : goal.loop-node-preserved
loop-node-preserved c = record {
  found = rw (add-one, c.in_ok-push.ensures.items) (each_next (IsWhereOn c.args.columns.now) view c.args.nodes.now c.loop-node.node-index _ _ c.loop-node.conds.items c.in_ok-where_of.field-0 c.node-item.is c.loop-node-test.true c.loop-node.invariant.found c.in_ok-where_of.ensures.found);
  fit = rw c.in_ok-push.ensures.items (all_more (λ cs. AllByRecursion (IsCondOf (types c.args.columns.now)) cs) c.loop-node.conds.items c.in_ok-where_of.field-0 c.loop-node.invariant.fit c.in_ok-where_of.ensures.fit);
}

pub returns-in_err-where_of-clause-breaks : goal.returns-in_err-where_of-clause-breaks
returns-in_err-where_of-clause-breaks c =
    let p = err_from_is_err_and c.from_residual.result c.from_residual.ensures.1 in
    rw (p.1, p.2) (λ of_text. some_taken (WhereBreaks c.in_err-where_of.field-0.0 c.args.columns.now) view c.args.nodes.now c.loop-node.node-index _ c.node-item.result c.node-item.is c.loop-node-test.true (c.in_err-where_of.ensures.breaks of_text))
