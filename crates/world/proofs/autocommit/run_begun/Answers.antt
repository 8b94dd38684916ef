-- Why `run_begun` meets its contract.
use Rattle.std.proofs.Common.{refl, sym, subst, ◌∙◌, ◌++◌}
use Rattle.world.proofs.Calls.{stops_as, then_back, then_too}
use Rattle.world.proofs.Lone.{state_taken_back}
use Rattle.world.specs.Commands.{IsStated, heard_in}
use Rattle.world.specs.Contents.{OfStores, counted}
use Rattle.world.specs.Course.{IsOne, States}
use Rattle.world.specs.Frame.{ComesTo}
use Rattle.world.specs.declared.event.Call.TheVariants as call
use Rattle.world.proofs.autocommit.run_begun.Goals as goal

pub returns-in-Ok : goal.returns-in-Ok
returns-in-Ok g c =
    let clean = OfStores g.D.DeskStore.is_clean g.S.SiteStore.is_clean in
    let sound = OfStores g.D.DeskStore.is_sound g.S.SiteStore.is_sound in
    let view = counted g.D.DeskStore.kept g.S.SiteStore.kept g.D.DeskStore.refused g.S.SiteStore.refused in
    let old = c.args.machines.now in
    let mid = c.state.new.machines in
    let new = c.go_on.new.machines in
    let first = subst (λ r. ComesTo clean sound view old mid r (λ db. IsOne (λ heard. States c.args.begun.txn c.args.text.now heard.items) (call.State c.args.begun.txn c.args.text.now))) c.in-Ok.is c.state.ensures in
    then_too clean sound view old mid new _ c.go_on.result
    (λ db one more is decided. subst (λ ms. IsStated c.args.text.now c.args.begun.txn c.args.begun.heard.items (ms ++ more) (heard_in (λ heard. heard.items) c.go_on.result)) (sym is) (refl, refl, decided)) first c.go_on.ensures

pub returns-then-is_stop : goal.returns-then-is_stop
returns-then-is_stop g c =
    let clean = OfStores g.D.DeskStore.is_clean g.S.SiteStore.is_clean in
    let sound = OfStores g.D.DeskStore.is_sound g.S.SiteStore.is_sound in
    let view = counted g.D.DeskStore.kept g.S.SiteStore.kept g.D.DeskStore.refused g.S.SiteStore.refused in
    let old = c.args.machines.now in
    let new = c.state.new.machines in
    let first = subst (λ r. ComesTo clean sound view old new r (λ db. IsOne (λ heard. States c.args.begun.txn c.args.text.now heard.items) (call.State c.args.begun.txn c.args.text.now))) c.in-Err.is c.state.ensures in
    stops_as clean sound view old new c.in-Err.refusal (sym c.is_stop.ensures ∙ c.if-is_stop.true) first

pub returns-else-is_stop : goal.returns-else-is_stop
returns-else-is_stop g c =
    let clean = OfStores g.D.DeskStore.is_clean g.S.SiteStore.is_clean in
    let sound = OfStores g.D.DeskStore.is_sound g.S.SiteStore.is_sound in
    let view = counted g.D.DeskStore.kept g.S.SiteStore.kept g.D.DeskStore.refused g.S.SiteStore.refused in
    let old = c.args.machines.now in
    let mid = c.state.new.machines in
    let new = c.take_back.new.machines in
    let first = subst (λ r. ComesTo clean sound view old mid r (λ db. IsOne (λ heard. States c.args.begun.txn c.args.text.now heard.items) (call.State c.args.begun.txn c.args.text.now))) c.in-Err.is c.state.ensures in
    then_back clean sound view old mid new c.in-Err.refusal c.take_back.result (sym c.is_stop.ensures ∙ c.if-is_stop.false)
    (λ db one more is taken. state_taken_back (λ heard. heard.items) c.args.text.now c.args.begun.txn c.args.begun.heard.items c.in-Err.refusal c.take_back.result one more is taken) first c.take_back.ensures
