-- Why `ask_rollback` meets its contract.
use Rattle.std.proofs.Common.{refl, ap, ◌∙◌, ◌++◌, ◌∷◌, [], List, Ok, ◌≡◌, subst, sym, inr}
use Rattle.std.specs.Prelude.{⊤}
use Rattle.world.specs.Batch.{MakesMore, moved}
use Rattle.world.specs.Contents.{OfStores, counted}
use Rattle.world.specs.Course.{Rolls_back}
use Rattle.world.specs.declared.event.Call.TheVariants as call
use Rattle.world.specs.declared.transaction.Came as cames
use Rattle.world.proofs.BatchCalls.{came_of, runs_into, runs_out, runs_well, stopped_by}
use Rattle.world.proofs.Batches.{one_more}
use Rattle.world.proofs.Calls.{stays}
use Rattle.world.proofs.batch.ask_rollback.Goals as goal

pub returns : goal.returns
returns g c =
    let clean = OfStores g.D.DeskStore.is_clean g.S.SiteStore.is_clean in
    let sound = OfStores g.D.DeskStore.is_sound g.S.SiteStore.is_sound in
    let view = counted g.D.DeskStore.kept g.S.SiteStore.kept g.D.DeskStore.refused g.S.SiteStore.refused in
    let old = c.args.machines.now in
    runs_well clean sound view _ old c.roll_back.new.machines (λ moves. moves ≡ moved (call.Rollback c.args.txn) c.in_ok-one.one) c.push_reserved.new.self
    (λ db moves is. subst (MakesMore (call.Rollback c.args.txn ∷ []) c.args.came.items c.push_reserved.new.self.items) (sym is)
    (one_more (call.Rollback c.args.txn) c.in_ok-one.one c.args.came.items c.push_reserved.new.self.items (c.push_reserved.ensures.items ∙ ap (λ (came : List cames.Came). came ++ c.in_ok-one.one ∷ []) c.make_room.ensures.items)))
    (came_of clean sound view (λ heard. heard.items) (call.Rollback c.args.txn) (λ heard. Rolls_back c.args.txn heard.items) old c.roll_back.new.machines c.roll_back.result c.told.result c.in_ok-one.one c.in_ok-one.was (λ heard. refl) (λ why. refl) c.told.ensures.heard c.told.ensures.refused c.roll_back.ensures)

pub returns-in_err-make_room : goal.returns-in_err-make_room
returns-in_err-make_room g c =
    let clean = OfStores g.D.DeskStore.is_clean g.S.SiteStore.is_clean in
    let sound = OfStores g.D.DeskStore.is_sound g.S.SiteStore.is_sound in
    let view = counted g.D.DeskStore.kept g.S.SiteStore.kept g.D.DeskStore.refused g.S.SiteStore.refused in
    let old = c.args.machines.now in
    runs_out clean sound view _ old old (λ moves. ⊤) c.from_residual.result c.in_err-make_room.field-0.0 c.from_residual.ensures.1 c.in_err-make_room.ensures.memory
    (stays clean sound view old (Ok tt) tt (λ db of n is. inr tt))

pub returns-in_err-one : goal.returns-in_err-one
returns-in_err-one g c =
    let clean = OfStores g.D.DeskStore.is_clean g.S.SiteStore.is_clean in
    let sound = OfStores g.D.DeskStore.is_sound g.S.SiteStore.is_sound in
    let view = counted g.D.DeskStore.kept g.S.SiteStore.kept g.D.DeskStore.refused g.S.SiteStore.refused in
    let old = c.args.machines.now in
    let stop = stopped_by clean sound view {U = Unit {0}} (λ heard. heard.items) old c.roll_back.new.machines c.roll_back.result c.told.result c.in_err-one.field-0.0 _ (λ db done moves. ⊤) c.in_err-one.was c.told.ensures.heard c.told.ensures.refused c.roll_back.ensures in
    runs_into clean sound view _ {T = Unit {0}} old old c.roll_back.new.machines (λ moves. ⊤) c.from_residual-in_err-one.result c.in_err-one.field-0.0 c.from_residual-in_err-one.ensures.1 stop.0
    (stays clean sound view old (Ok tt) tt (λ db of n is. inr tt)) stop.1
