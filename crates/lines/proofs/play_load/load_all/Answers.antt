use Rattle.std.proofs.Common.{◌+◌, drop, get_or, subst, take}
use Rattle.lines.specs.PlayLoad.{LoadsItem}
use Rattle.lines.specs.declared.play_items.Placed.{Placed}
use Rattle.lines.proofs.PlayLoadLemmas.{LoadsAll-next, items_at}
use Rattle.lines.proofs.play_load.load_all.Goals as goal

pub returns-then-not-branch-clause-stops : goal.returns-then-not-branch-clause-stops
returns-then-not-branch-clause-stops c = λ line is. record {
  past = take c.loop-placed.placed-index c.args.items.now;
  here = get_or c.args.items.now c.loop-placed.placed-index c.placed-item.result;
  rest = drop (c.loop-placed.placed-index + 1) c.args.items.now;
  of = items_at c.args.items.now c.loop-placed.placed-index c.placed-item.result c.loop-placed-test.true;
  middle = c.loop-placed.whole;
  loaded = c.loop-placed.invariant;
  fails = rw (← c.placed-item.is) (c.in_ok-load_item.ensures.fails c.if-not-branch.true);
  numbered = cc;
}

pub loop-placed-preserved : goal.loop-placed-preserved
loop-placed-preserved c =
    let schema = c.args.schema.now.relations in
    let next = subst (λ (placed : Placed). LoadsItem schema placed.item c.loop-placed.whole c.load_item.new.whole) c.placed-item.is (c.in_ok-load_item.ensures.loaded c.if-not-branch.false) in
    LoadsAll-next schema c.args.items.now c.loop-placed.placed-index c.placed-item.result c.args.whole.now c.loop-placed.whole c.load_item.new.whole c.loop-placed-test.true c.loop-placed.invariant next
