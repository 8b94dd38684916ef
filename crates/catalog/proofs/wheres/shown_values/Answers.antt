use Rattle.std.proofs.Common.{add-one}
use Rattle.catalog.proofs.ShownValues.{shown_past, shown_next}
use Rattle.catalog.proofs.wheres.shown_values.Goals as goal

pub loop-place-preserved : goal.loop-place-preserved
loop-place-preserved c =
    rw add-one (shown_next c.loop-place.place c.args.conds.now c.args.columns.now c.args.values.now _ _ _ _ c.loop-place.shown.items c.push_shown.new.shown.items _ c.index-columns-place.is c.index-values-place.is
    (rw (← c.min-place-end.ensures) c.loop-place-test.true) c.in_ok-push_shown.ensures c.loop-place.invariant)

pub returns : goal.returns
returns c =
    shown_past c.loop-place.place c.args.conds.now c.args.columns.now c.args.values.now c.loop-place.shown.items _
    (rw (← c.min-place-end.ensures) c.loop-place-test.false) c.loop-place.invariant
