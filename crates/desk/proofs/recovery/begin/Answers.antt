-- Why `begin` meets its contract.
use Rattle.std.proofs.Common.{sym, ap, ◌∙◌, ◌+◌, ◌<◌, ◌^◌, subst, ℕ, [], map}
use Rattle.desk.specs.Recovery.{may_stand, row_in_order, stood_by}
use Rattle.desk.proofs.Rising.{rises, sent_again}
use Rattle.desk.proofs.recovery.begin.Goals as goal

pub returns-in-Ok-next_incarnation-clause-rises : goal.returns-in-Ok-next_incarnation-clause-rises
returns-in-Ok-next_incarnation-clause-rises g c = λ db same clean.
    let before = c.next_incarnation.ensures.leaves.clean clean in
    let learnt = c.in-Ok.ensures.learnt before in
    let sound = c.load.ensures.leaves.sound before learnt in
    let kept = g.S.DeskStore.kept c.load.new.self in
    let after = g.S.DeskStore.kept c.next_incarnation.new.self in
    let all = c.in-Ok.all in
    let lists = c.in-Ok.ensures.all before in
    let stands = c.in_ok-begun.ensures in
    let below : kept.life + 1 < 2 ^ 63 = subst (λ (n : ℕ). n + 1 < 2 ^ 63) lists.incarnation stands.below in
    rises db all kept after lists (c.in-Ok-next_incarnation.ensures.ok clean sound below) (ap (λ ss. may_stand all.life ss all.commits) same ∙ stands.may_stand) below c.in_ok-begun.begun.standings.entries c.in-Ok-next_incarnation.life c.in_ok-begun.begun.version
    (stands.standings ∙ ap (λ ss. stood_by (map (row_in_order ss) all.commits) []) (sym same))
    (c.in-Ok-next_incarnation.ensures.life clean sound) stands.version

pub returns-in-Ok-next_incarnation-clause-letters : goal.returns-in-Ok-next_incarnation-clause-letters
returns-in-Ok-next_incarnation-clause-letters g c = λ clean.
    let before = c.next_incarnation.ensures.leaves.clean clean in
    let learnt = c.in-Ok.ensures.learnt before in
    let sound = c.load.ensures.leaves.sound before learnt in
    let kept = g.S.DeskStore.kept c.load.new.self in
    let after = g.S.DeskStore.kept c.next_incarnation.new.self in
    let lists = c.in-Ok.ensures.all before in
    let stands = c.in_ok-begun.ensures in
    let below : kept.life + 1 < 2 ^ 63 = subst (λ (n : ℕ). n + 1 < 2 ^ 63) lists.incarnation stands.below in
    sent_again c.args.sites.now c.in-Ok.all kept after lists (c.in-Ok-next_incarnation.ensures.ok clean sound below) stands.may_stand c.in_ok-begun.begun.letters.items stands.letters
