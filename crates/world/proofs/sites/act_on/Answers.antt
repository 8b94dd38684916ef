-- Why `act_on` meets its contract.
use Rattle.std.proofs.Common.{refl, subst, IfErr}
use Rattle.world.proofs.Reasoned.{named_tells}
use Rattle.world.proofs.SiteSteps.{on_err, seat_same, unchanged}
use Rattle.world.specs.Refused.{PlaceTells}
use Rattle.world.specs.Seated.{seat_from}
use Rattle.world.proofs.Refusals.{letter_fails, restart_fails}
use Rattle.store.specs.Fault.{HasRefused}
use Rattle.world.proofs.Stops.{site_stops}
use Rattle.world.proofs.sites.act_on.Goals as goal

pub returns-in-Take-clause-err : goal.returns-in-Take-clause-err
returns-in-Take-clause-err g c = λ clean sound.
    let kept = g.S.SiteStore.kept in
    let old = c.args.site.now in
    let new = c.take_kept.new.self in
    on_err c.take_kept.result (λ table same. seat_same (seat_from kept old) (seat_from kept new) c.take_kept.ensures.fails.memory.volatile.name c.take_kept.ensures.fails.memory.volatile.leaves table (unchanged (kept old.store) (kept new.store) same)) c.take_kept.ensures.fails.memory.err (c.take_kept.ensures.fails.same clean sound)

pub returns-in-Take-clause-told : goal.returns-in-Take-clause-told
returns-in-Take-clause-told g c = λ letter is called.
    named_tells c.take_kept.result (seat_from g.S.SiteStore.kept c.args.site.now) c.args.site.now.volatile.locks.items letter c.in-Take.letter c.args.what c.in-Take.is is refl called c.take_kept.ensures.full c.take_kept.ensures.turns.elsewhere c.take_kept.ensures.turns.calls

pub returns-in-Take-clause-blames : goal.returns-in-Take-clause-blames
returns-in-Take-clause-blames g c = λ letter is made clean sound.
    let refused = g.S.SiteStore.refused in
    site_stops c.take_kept.result c.args.kept (refused c.args.site.now.store) (refused c.take_kept.new.self.store) made c.take_kept.ensures.fails.refusal (c.take_kept.ensures.fails.intact clean sound) c.take_kept.ensures.fails.plain

pub returns-in-Take-clause-fails : goal.returns-in-Take-clause-fails
returns-in-Take-clause-fails g c =
    let S = g.S.SiteStore in
    let old = c.args.site.now in
    letter_fails c.take_kept.result (S.is_clean c.take_kept.new.self.store × S.is_sound old.store) (HasRefused (S.refused old.store) (S.refused c.take_kept.new.self.store)) c.args.what c.in-Take.letter c.args.kept (seat_from S.kept old) c.in-Take.is

pub returns-clause-fails : goal.returns-clause-fails
returns-clause-fails g c =
    let S = g.S.SiteStore in
    let old = c.args.site.now in
    let new = c.restart_kept.new.self.store in
    let sound = S.is_clean new × S.is_sound old.store in
    let refused = HasRefused (S.refused old.store) (S.refused new) in
    let restarts = c.restart_kept.ensures.restarts in
    subst (λ r. IfErr r (PlaceTells sound refused c.args.what c.args.kept (seat_from S.kept old))) c.in-Err-restart_kept.is
    (restart_fails c.restart_kept.result sound refused c.args.what c.in-Restart.field-0 c.args.kept (seat_from S.kept old) (S.kept new) c.in-Restart.is
    restarts.begins.refusal (λ so. restarts.begins.damaged so.0 so.1) (λ so. restarts.begins.full so.0) restarts.own (λ so. restarts.begins.same so.0 so.1))
