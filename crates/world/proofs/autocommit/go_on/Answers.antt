-- Why `go_on` meets its contract.
use Rattle.desk.specs.declared.reply.Notice.{Notice}
use Rattle.std.proofs.Common.{List, inl, subst}
use Rattle.world.proofs.Calls.{stays}
use Rattle.world.proofs.Denials.{is_memory}
use Rattle.world.proofs.Stops.{memory_stops}
use Rattle.world.specs.Commands.{IsDecided, heard_in}
use Rattle.world.specs.Contents.{OfStores, counted}
use Rattle.world.specs.Frame.{ComesTo}
use Rattle.world.proofs.autocommit.go_on.Goals as goal

pub returns-in-Ok : goal.returns-in-Ok
returns-in-Ok g c =
    let clean = OfStores g.D.DeskStore.is_clean g.S.SiteStore.is_clean in
    let sound = OfStores g.D.DeskStore.is_sound g.S.SiteStore.is_sound in
    let view = counted g.D.DeskStore.kept g.S.SiteStore.kept g.D.DeskStore.refused g.S.SiteStore.refused in
    let old = c.args.machines.now in
    subst (λ (told : List Notice). ComesTo clean sound view old c.decide.new.machines c.decide.result (λ db done moves. IsDecided c.args.txn told moves (heard_in (λ heard. heard.items) done))) c.in-Ok.ensures.all c.decide.ensures

pub returns-in-Err : goal.returns-in-Err
returns-in-Err g c =
    let clean = OfStores g.D.DeskStore.is_clean g.S.SiteStore.is_clean in
    let sound = OfStores g.D.DeskStore.is_sound g.S.SiteStore.is_sound in
    let view = counted g.D.DeskStore.kept g.S.SiteStore.kept g.D.DeskStore.refused g.S.SiteStore.refused in
    let old = c.args.machines.now in
    stays clean sound view old _ (memory_stops (view old).refused (view old).refused c.in-Err.refusal c.in-Err.ensures.own) (λ db of n is. inl (is_memory c.in-Err.refusal c.in-Err.ensures.own))
