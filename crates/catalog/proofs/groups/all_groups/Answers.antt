use Rattle.std.proofs.Common.{add-one, map, sym, ap, ◌∙◌, Some}
use Rattle.std.proofs.lemmas.Result.{err_from_is_err_and}
use Rattle.toml.specs.View.{view}
use Rattle.catalog.specs.Describes.{named_in}
use Rattle.catalog.specs.Frame.{frame_of}
use Rattle.catalog.proofs.Answered.{answered_next, answered_not}
use Rattle.catalog.proofs.GroupBreaks.{group_of_all, said_next}
use Rattle.catalog.proofs.GroupNames.{refuses_groups}
use Rattle.catalog.proofs.groups.all_groups.Goals as goal

pub returns-in_err-places-clause-none : goal.returns-in_err-places-clause-none
returns-in_err-places-clause-none c =
    let p = err_from_is_err_and c.from_residual.result c.from_residual.ensures.1 in
    rw (p.1, p.2) (refuses_groups (frame_of c.args.frame.now) c.args.within.now (map view c.args.nodes.now) (view c.node-item.result) c.in_err-places.field-0.0 c.in_err-places.ensures.none
    (answered_not (named_in (frame_of c.args.frame.now) c.args.within.now) view c.args.nodes.now c.loop-node.node-index _ _ c.node-item.is c.loop-node-test.true))

pub returns-in_err-places-clause-breaks : goal.returns-in_err-places-clause-breaks
returns-in_err-places-clause-breaks c =
    let p = err_from_is_err_and c.from_residual.result c.from_residual.ensures.1 in
    rw (p.1, p.2) (λ of_text. group_of_all (frame_of c.args.frame.now) c.args.within.now view c.args.nodes.now c.loop-node.node-index _ c.node-item.result c.loop-node.seen.items c.in_err-places.field-0.0
    c.node-item.is c.loop-node-test.true c.loop-node.invariant.seen (c.in_err-places.ensures.breaks of_text))

pub loop-node-preserved : goal.loop-node-preserved
loop-node-preserved c = record {
  found = rw add-one (answered_next (named_in (frame_of c.args.frame.now) c.args.within.now) view c.args.nodes.now c.loop-node.node-index _ _ c.loop-node.groups.items c.new.result c.node-item.is c.loop-node-test.true c.loop-node.invariant.found (c.in_ok-places.ensures.found ∙ ap Some (sym c.new.ensures))
      ∙ ap Some (sym c.in_ok-push.ensures.items));
  seen = rw add-one (c.in_ok-places.ensures.seen ∙ said_next (frame_of c.args.frame.now) c.args.within.now view c.args.nodes.now c.loop-node.node-index _ c.node-item.result c.loop-node.seen.items c.in_ok-places.places.items
      c.node-item.is c.loop-node-test.true c.loop-node.invariant.seen c.in_ok-places.ensures.found);
}
