-- Why `ask_commit` meets its contract.
use Rattle.std.proofs.Common.{refl, ap, ◌∙◌, ◌++◌, ◌∷◌, [], List, Ok, ◌≡◌, subst, sym, inr}
use Rattle.std.specs.Prelude.{⊤}
use Rattle.world.specs.Batch.{MakesMore, calls_of_end, moved}
use Rattle.world.specs.declared.transaction.End.TheVariants as end
use Rattle.world.specs.Contents.{OfStores, counted}
use Rattle.world.specs.Course.{Commits, Move}
use Rattle.world.specs.declared.event.Call.TheVariants as call
use Rattle.world.specs.declared.transaction.Came as cames
use Rattle.world.proofs.BatchCalls.{came_of, runs_into, runs_on, runs_out, runs_well, stopped_by}
use Rattle.world.proofs.Batches.{commit_done, commit_refused}
use Rattle.world.proofs.Calls.{stays}
use Rattle.world.proofs.batch.ask_commit.Goals as goal

pub returns-then-refused : goal.returns-then-refused
returns-then-refused g c =
    let clean = OfStores g.D.DeskStore.is_clean g.S.SiteStore.is_clean in
    let sound = OfStores g.D.DeskStore.is_sound g.S.SiteStore.is_sound in
    let view = counted g.D.DeskStore.kept g.S.SiteStore.kept g.D.DeskStore.refused g.S.SiteStore.refused in
    let old = c.args.machines.now in
    runs_on clean sound view _ old c.commit.new.machines c.ask_rollback.new.machines (λ moves. moves ≡ moved (call.Commit c.args.txn) c.in_ok-one.one) c.ask_rollback.result
    (λ db all moves. MakesMore (calls_of_end end.Rollback c.args.txn) c.push_reserved.new.self.items all.items moves)
    (λ db all one two is back. subst (λ (front : List Move). MakesMore (calls_of_end end.Commit c.args.txn) c.args.came.items all.items (front ++ two)) (sym is)
    (commit_refused c.args.txn c.in_ok-one.one c.args.came.items c.push_reserved.new.self.items all.items two (c.is_refused-refused.ensures.refused c.args.txn c.if-refused.true) (c.push_reserved.ensures.items ∙ ap (λ (came : List cames.Came). came ++ c.in_ok-one.one ∷ []) c.make_room.ensures.items) back))
    (came_of clean sound view (λ heard. heard.items) (call.Commit c.args.txn) (λ heard. Commits c.args.txn heard.items) old c.commit.new.machines c.commit.result c.told.result c.in_ok-one.one c.in_ok-one.was (λ heard. refl) (λ why. refl) c.told.ensures.heard c.told.ensures.refused c.commit.ensures) c.ask_rollback.ensures

pub returns-else-refused : goal.returns-else-refused
returns-else-refused g c =
    let clean = OfStores g.D.DeskStore.is_clean g.S.SiteStore.is_clean in
    let sound = OfStores g.D.DeskStore.is_sound g.S.SiteStore.is_sound in
    let view = counted g.D.DeskStore.kept g.S.SiteStore.kept g.D.DeskStore.refused g.S.SiteStore.refused in
    let old = c.args.machines.now in
    runs_well clean sound view _ old c.commit.new.machines (λ moves. moves ≡ moved (call.Commit c.args.txn) c.in_ok-one.one) c.push_reserved.new.self
    (λ db moves is. subst (MakesMore (calls_of_end end.Commit c.args.txn) c.args.came.items c.push_reserved.new.self.items) (sym is)
    (commit_done c.args.txn c.in_ok-one.one c.args.came.items c.push_reserved.new.self.items (c.is_refused-refused.ensures.done c.args.txn c.if-refused.false) (c.push_reserved.ensures.items ∙ ap (λ (came : List cames.Came). came ++ c.in_ok-one.one ∷ []) c.make_room.ensures.items)))
    (came_of clean sound view (λ heard. heard.items) (call.Commit c.args.txn) (λ heard. Commits c.args.txn heard.items) old c.commit.new.machines c.commit.result c.told.result c.in_ok-one.one c.in_ok-one.was (λ heard. refl) (λ why. refl) c.told.ensures.heard c.told.ensures.refused c.commit.ensures)

pub returns-in_err-make_room : goal.returns-in_err-make_room
returns-in_err-make_room g c =
    let clean = OfStores g.D.DeskStore.is_clean g.S.SiteStore.is_clean in
    let sound = OfStores g.D.DeskStore.is_sound g.S.SiteStore.is_sound in
    let view = counted g.D.DeskStore.kept g.S.SiteStore.kept g.D.DeskStore.refused g.S.SiteStore.refused in
    let old = c.args.machines.now in
    runs_out clean sound view _ old old (λ moves. ⊤) c.from_residual.result c.in_err-make_room.field-0.0 c.from_residual.ensures.1 c.in_err-make_room.ensures.memory
    (stays clean sound view old (Ok tt) tt (λ db of n is. inr tt))

pub returns-in_err-one : goal.returns-in_err-one
returns-in_err-one g c =
    let clean = OfStores g.D.DeskStore.is_clean g.S.SiteStore.is_clean in
    let sound = OfStores g.D.DeskStore.is_sound g.S.SiteStore.is_sound in
    let view = counted g.D.DeskStore.kept g.S.SiteStore.kept g.D.DeskStore.refused g.S.SiteStore.refused in
    let old = c.args.machines.now in
    let stop = stopped_by clean sound view {U = Unit {0}} (λ heard. heard.items) old c.commit.new.machines c.commit.result c.told.result c.in_err-one.field-0.0 _ (λ db done moves. ⊤) c.in_err-one.was c.told.ensures.heard c.told.ensures.refused c.commit.ensures in
    runs_into clean sound view _ {T = Unit {0}} old old c.commit.new.machines (λ moves. ⊤) c.from_residual-in_err-one.result c.in_err-one.field-0.0 c.from_residual-in_err-one.ensures.1 stop.0
    (stays clean sound view old (Ok tt) tt (λ db of n is. inr tt)) stop.1
