-- Why `take_back` meets its contract.
use Rattle.std.proofs.Common.{refl, sym, subst, inr, ◌∙◌}
use Rattle.world.proofs.Calls.{as_kind, goes_for_any, left_behind, stops_as}
use Rattle.world.specs.Commands.{IsTakenBack}
use Rattle.world.specs.Contents.{OfStores, counted}
use Rattle.world.specs.Course.{IsOne, Rolls_back}
use Rattle.world.specs.Frame.{ComesTo}
use Rattle.world.specs.declared.event.Call.TheVariants as call
use Rattle.world.proofs.autocommit.take_back.Goals as goal

pub returns-in-Ok : goal.returns-in-Ok
returns-in-Ok g c =
    let clean = OfStores g.D.DeskStore.is_clean g.S.SiteStore.is_clean in
    let sound = OfStores g.D.DeskStore.is_sound g.S.SiteStore.is_sound in
    let view = counted g.D.DeskStore.kept g.S.SiteStore.kept g.D.DeskStore.refused g.S.SiteStore.refused in
    let old = c.args.machines.now in
    let new = c.roll_back.new.machines in
    let first = subst (λ r. ComesTo clean sound view old new r (λ db. IsOne (λ heard. Rolls_back c.args.txn heard.items) (call.Rollback c.args.txn))) c.in-Ok.is c.roll_back.ensures in
    as_kind clean sound view old new _ _ (λ blamed. goes_for_any (view old).refused (view new).refused c.args.refusal c.requires) (λ none. absurd none)
    (λ db of n is moves k. inr (subst (IsTakenBack c.args.txn) (sym k) refl, refl)) first

pub returns-then-is_stop : goal.returns-then-is_stop
returns-then-is_stop g c =
    let clean = OfStores g.D.DeskStore.is_clean g.S.SiteStore.is_clean in
    let sound = OfStores g.D.DeskStore.is_sound g.S.SiteStore.is_sound in
    let view = counted g.D.DeskStore.kept g.S.SiteStore.kept g.D.DeskStore.refused g.S.SiteStore.refused in
    let old = c.args.machines.now in
    let new = c.roll_back.new.machines in
    let first = subst (λ r. ComesTo clean sound view old new r (λ db. IsOne (λ heard. Rolls_back c.args.txn heard.items) (call.Rollback c.args.txn))) c.in-Err.is c.roll_back.ensures in
    stops_as clean sound view old new c.in-Err.other (sym c.is_stop.ensures ∙ c.if-is_stop.true) first

pub returns-else-is_stop : goal.returns-else-is_stop
returns-else-is_stop g c =
    let clean = OfStores g.D.DeskStore.is_clean g.S.SiteStore.is_clean in
    let sound = OfStores g.D.DeskStore.is_sound g.S.SiteStore.is_sound in
    let view = counted g.D.DeskStore.kept g.S.SiteStore.kept g.D.DeskStore.refused g.S.SiteStore.refused in
    let old = c.args.machines.now in
    let new = c.roll_back.new.machines in
    let first = subst (λ r. ComesTo clean sound view old new r (λ db. IsOne (λ heard. Rolls_back c.args.txn heard.items) (call.Rollback c.args.txn))) c.in-Err.is c.roll_back.ensures in
    left_behind clean sound view c.args.txn _ old new c.in-Err.other c.args.refusal (sym c.is_stop.ensures ∙ c.if-is_stop.false) c.requires first
