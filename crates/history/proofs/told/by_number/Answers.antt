-- Why `by_number` meets its contract.
use Rattle.std.proofs.Common.{Some, sym, subst, take}
use Rattle.history.specs.Picks.{act_of, acts_of}
use Rattle.history.specs.Standing.{AreUnder, told_under}
use Rattle.history.proofs.Looking.{acts_before, acts_more, told_changed, under_more}
use Rattle.history.proofs.told.by_number.Goals as goal

pub loop-pick-preserved : goal.loop-pick-preserved
loop-pick-preserved c =
    let picks = c.args.picks.now in
    let i = c.loop-pick.pick-index in
    let pick = c.pick-item.result in
    let under = told_under c.insert.new.self in
    subst (AreUnder under) (sym (acts_more picks i pick c.loop-pick-test.true c.pick-item.is))
    (under_more (told_under c.loop-pick.waiting) under (acts_of (take i picks)) (act_of pick) c.loop-pick.invariant (acts_before picks i pick c.requires c.loop-pick-test.true c.pick-item.is)
    (told_changed c.loop-pick.waiting c.insert.new.self pick.item.now.number (Some pick.item) c.in_ok-insert.ensures.updates))
