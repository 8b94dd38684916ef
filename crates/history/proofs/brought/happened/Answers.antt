-- Why `happened` meets its contract.
use Rattle.std.proofs.Common.{◌≡◌, ◌++◌, ◌+◌, ◌∙◌, drop, ap, subst, arith}
use Rattle.std.proofs.lemmas.List.{at_drop_all}
use Rattle.history.specs.Brought.{happened_by}
use Rattle.history.specs.Picks.{act_of, acts_of}
use Rattle.history.proofs.Happening.{IsTelling, next_act, telling_all, telling_broken, telling_more}
use Rattle.history.proofs.brought.happened.Goals as goal

pub returns-in_default-clause-why : goal.returns-in_default-clause-why
returns-in_default-clause-why c = λ k e.
    let sites = c.args.sites.now in
    let acts = c.args.acts.now in
    let pick = c.act-item.result in
    let left = acts_of (drop (c.loop-act.act-index + 1) acts) in
    let so = subst (λ left. IsTelling sites (acts_of acts) left c.loop-act.sent c.loop-act.happened.items) (next_act acts c.loop-act.act-index pick (omega arith) c.act-item.is) c.loop-act.invariant in
    telling_broken sites (acts_of acts) left c.loop-act.sent c.loop-act.happened.items (act_of pick) k (cc) c.in_default.ensures so

pub loop-act-preserved : goal.loop-act-preserved
loop-act-preserved c =
    let sites = c.args.sites.now in
    let acts = c.args.acts.now in
    let pick = c.act-item.result in
    let left = acts_of (drop (c.loop-act.act-index + 1) acts) in
    let so = subst (λ left. IsTelling sites (acts_of acts) left c.loop-act.sent c.loop-act.happened.items) (next_act acts c.loop-act.act-index pick (omega arith) c.act-item.is) c.loop-act.invariant in
    let sent : c.in_ok-sent.sent ≡ c.loop-act.sent ++ pick.item.now.letters = c.in_ok-sent.ensures ∙ ap (λ letters. c.loop-act.sent ++ letters) c.as_slice.ensures in
    let happened : c.add.new.happened.items ≡ c.loop-act.happened.items ++ happened_by pick.item.now.fault sites c.in-Some.place pick.cell pick.item.now = c.in_ok-add.ensures in
    rw (sent, happened) (telling_more sites (acts_of acts) left c.loop-act.sent c.loop-act.happened.items c.in-Some.place (act_of pick) c.in-Some.ensures so)

pub returns-clause-ok : goal.returns-clause-ok
returns-clause-ok c =
    let sites = c.args.sites.now in
    let acts = c.args.acts.now in
    let none = at_drop_all acts_of acts c.loop-act.act-index (omega arith) in
    telling_all sites (acts_of acts) c.loop-act.sent c.loop-act.happened.items (subst (λ left. IsTelling sites (acts_of acts) left c.loop-act.sent c.loop-act.happened.items) none c.loop-act.invariant)
