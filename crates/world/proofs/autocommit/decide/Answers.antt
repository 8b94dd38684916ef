-- Why `decide` meets its contract.
use Rattle.std.proofs.Common.{refl, sym, subst, ap, Ok, ◌∙◌, inr}
use Rattle.world.proofs.Calls.{answered, stays, stops_as, then_back}
use Rattle.world.proofs.Lone.{commit_taken_back}
use Rattle.world.proofs.SiteSteps.{if_ok}
use Rattle.world.specs.Client.{is_end, tells}
use Rattle.world.specs.Commands.{IsDecided}
use Rattle.world.specs.Contents.{OfStores, counted}
use Rattle.world.specs.Course.{Commits, IsOne}
use Rattle.world.specs.Frame.{ComesTo}
use Rattle.world.specs.declared.event.Call.TheVariants as call
use Rattle.world.proofs.autocommit.decide.Goals as goal

pub returns-then-tells_end : goal.returns-then-tells_end
returns-then-tells_end g c =
    let clean = OfStores g.D.DeskStore.is_clean g.S.SiteStore.is_clean in
    let sound = OfStores g.D.DeskStore.is_sound g.S.SiteStore.is_sound in
    let view = counted g.D.DeskStore.kept g.S.SiteStore.kept g.D.DeskStore.refused g.S.SiteStore.refused in
    let old = c.args.machines.now in
    stays clean sound view old _ tt (λ db of n is. inr (sym (c.tells_end.ensures ∙ ap (tells is_end) c.as_slice.ensures.value) ∙ c.if-tells_end.true, ap Ok c.autocommit_reply.ensures))

pub returns-in-Ok : goal.returns-in-Ok
returns-in-Ok g c =
    let clean = OfStores g.D.DeskStore.is_clean g.S.SiteStore.is_clean in
    let sound = OfStores g.D.DeskStore.is_sound g.S.SiteStore.is_sound in
    let view = counted g.D.DeskStore.kept g.S.SiteStore.kept g.D.DeskStore.refused g.S.SiteStore.refused in
    let old = c.args.machines.now in
    let new = c.commit.new.machines in
    let goes = sym (c.tells_end.ensures ∙ ap (tells is_end) c.as_slice.ensures.value) ∙ c.if-tells_end.false in
    let first = subst (λ r. ComesTo clean sound view old new r (λ db. IsOne (λ heard. Commits c.args.txn heard.items) (call.Commit c.args.txn))) c.in-Ok.is c.commit.ensures in
    answered clean sound view old new _ c.hears.result c.hears.ensures.own
    (λ db moves is. if_ok c.hears.result (λ heard so. subst (λ ms. IsDecided c.args.txn c.args.told.items ms (Ok heard.items)) (sym is) (refl, goes, ap Ok so)) c.hears.ensures.heard) first

pub returns-then-is_stop : goal.returns-then-is_stop
returns-then-is_stop g c =
    let clean = OfStores g.D.DeskStore.is_clean g.S.SiteStore.is_clean in
    let sound = OfStores g.D.DeskStore.is_sound g.S.SiteStore.is_sound in
    let view = counted g.D.DeskStore.kept g.S.SiteStore.kept g.D.DeskStore.refused g.S.SiteStore.refused in
    let old = c.args.machines.now in
    let new = c.commit.new.machines in
    let first = subst (λ r. ComesTo clean sound view old new r (λ db. IsOne (λ heard. Commits c.args.txn heard.items) (call.Commit c.args.txn))) c.in-Err.is c.commit.ensures in
    stops_as clean sound view old new c.in-Err.refusal (sym c.is_stop.ensures ∙ c.if-is_stop.true) first

pub returns-else-is_stop : goal.returns-else-is_stop
returns-else-is_stop g c =
    let clean = OfStores g.D.DeskStore.is_clean g.S.SiteStore.is_clean in
    let sound = OfStores g.D.DeskStore.is_sound g.S.SiteStore.is_sound in
    let view = counted g.D.DeskStore.kept g.S.SiteStore.kept g.D.DeskStore.refused g.S.SiteStore.refused in
    let old = c.args.machines.now in
    let mid = c.commit.new.machines in
    let new = c.take_back.new.machines in
    let goes = sym (c.tells_end.ensures ∙ ap (tells is_end) c.as_slice.ensures.value) ∙ c.if-tells_end.false in
    let first = subst (λ r. ComesTo clean sound view old mid r (λ db. IsOne (λ heard. Commits c.args.txn heard.items) (call.Commit c.args.txn))) c.in-Err.is c.commit.ensures in
    then_back clean sound view old mid new c.in-Err.refusal c.take_back.result (sym c.is_stop.ensures ∙ c.if-is_stop.false)
    (λ db one more is taken. commit_taken_back (λ heard. heard.items) c.args.txn c.args.told.items c.in-Err.refusal c.take_back.result one more goes is taken) first c.take_back.ensures
