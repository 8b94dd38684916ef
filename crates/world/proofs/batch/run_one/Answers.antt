-- Why `run_one` meets its contract.
use Rattle.std.proofs.Common.{◌∷◌, ◌∙◌, [], Bool, Ok, Err, ◌≡◌, refl, sym, subst, inr}
use Rattle.world.specs.Batch.{Makes, RunsOne, calls_of}
use Rattle.world.specs.Contents.{OfStores, counted}
use Rattle.world.specs.Course.{Begins, IsOne}
use Rattle.world.specs.Frame.{ComesTo}
use Rattle.world.specs.declared.event.Call.TheVariants as call
use Rattle.world.specs.declared.transaction.Outcome.TheVariants.{Ran}
use Rattle.world.proofs.BatchCalls.{runs_into, runs_well, went_well, well_then}
use Rattle.world.proofs.Batches.{runs_begun}
use Rattle.protocol.proofs.Basics.{clash}
use Rattle.world.proofs.Calls.{answered, as_kind, stops_as}
use Rattle.world.proofs.batch.run_one.Goals as goal

pub returns-in-Ok-run_course : goal.returns-in-Ok-run_course
returns-in-Ok-run_course g c =
    let clean = OfStores g.D.DeskStore.is_clean g.S.SiteStore.is_clean in
    let sound = OfStores g.D.DeskStore.is_sound g.S.SiteStore.is_sound in
    let view = counted g.D.DeskStore.kept g.S.SiteStore.kept g.D.DeskStore.refused g.S.SiteStore.refused in
    let old = c.args.machines.now in
    let mid = c.begin.new.machines in
    let first = subst (λ r. ComesTo clean sound view old mid r (λ db. IsOne (λ begun. Begins begun.txn begun.heard.items) call.Begin)) c.in-Ok.is c.begin.ensures in
    let one = answered clean sound view old mid c.in-Ok.begun (Ok tt) tt (λ db moves is. is) first in
    let two = went_well clean sound view (λ db course moves. (course.txn ≡ c.in-Ok.begun.txn) × (course.greeted ≡ c.in-Ok.begun.heard.items) × ((ended : Bool) × Makes (calls_of c.args.transaction.now c.in-Ok.begun.txn) course.came ended moves))
    (λ moves. (c.in-Ok-run_course.course.txn ≡ c.in-Ok.begun.txn) × (c.in-Ok-run_course.course.greeted ≡ c.in-Ok.begun.heard.items) × ((ended : Bool) × Makes (calls_of c.args.transaction.now c.in-Ok.begun.txn) c.in-Ok-run_course.course.came ended moves))
    mid c.run_course.new.machines c.in-Ok-run_course.course (λ db moves ran. ran) c.in-Ok-run_course.ensures in
    let both = well_then clean sound view old mid c.run_course.new.machines (λ moves. moves ≡ Begins c.in-Ok.begun.txn c.in-Ok.begun.heard.items ∷ []) _ (RunsOne c.args.transaction.now (Ran c.in-Ok-run_course.course))
    (λ begins more is ran. runs_begun c.args.transaction.now c.in-Ok.begun.txn c.in-Ok.begun.heard.items c.in-Ok-run_course.course begins more is ran) one two in
    runs_well clean sound view _ old c.run_course.new.machines _ _ (λ db moves runs. runs) both

pub returns-in-Err-run_course : goal.returns-in-Err-run_course
returns-in-Err-run_course g c =
    let clean = OfStores g.D.DeskStore.is_clean g.S.SiteStore.is_clean in
    let sound = OfStores g.D.DeskStore.is_sound g.S.SiteStore.is_sound in
    let view = counted g.D.DeskStore.kept g.S.SiteStore.kept g.D.DeskStore.refused g.S.SiteStore.refused in
    let old = c.args.machines.now in
    let mid = c.begin.new.machines in
    let first = subst (λ r. ComesTo clean sound view old mid r (λ db. IsOne (λ begun. Begins begun.txn begun.heard.items) call.Begin)) c.in-Ok.is c.begin.ensures in
    let one = answered clean sound view old mid c.in-Ok.begun (Ok tt) tt (λ db moves is. is) first in
    runs_into clean sound view _ old mid c.run_course.new.machines (λ moves. moves ≡ Begins c.in-Ok.begun.txn c.in-Ok.begun.heard.items ∷ []) (Err c.in-Err-run_course.refusal) c.in-Err-run_course.refusal refl c.in-Err-run_course.ensures.own one c.in-Err-run_course.ensures.comes

pub returns-then-is_stop : goal.returns-then-is_stop
returns-then-is_stop g c =
    let clean = OfStores g.D.DeskStore.is_clean g.S.SiteStore.is_clean in
    let sound = OfStores g.D.DeskStore.is_sound g.S.SiteStore.is_sound in
    let view = counted g.D.DeskStore.kept g.S.SiteStore.kept g.D.DeskStore.refused g.S.SiteStore.refused in
    let old = c.args.machines.now in
    let new = c.begin.new.machines in
    let stops = sym c.is_stop.ensures ∙ c.if-is_stop.true in
    let first = subst (λ r. ComesTo clean sound view old new r (λ db. IsOne (λ begun. Begins begun.txn begun.heard.items) call.Begin)) c.in-Err.is c.begin.ensures in
    record { comes = stops_as clean sound view old new c.in-Err.refusal stops first; own = stops }

pub returns-else-is_stop : goal.returns-else-is_stop
returns-else-is_stop g c =
    let clean = OfStores g.D.DeskStore.is_clean g.S.SiteStore.is_clean in
    let sound = OfStores g.D.DeskStore.is_sound g.S.SiteStore.is_sound in
    let view = counted g.D.DeskStore.kept g.S.SiteStore.kept g.D.DeskStore.refused g.S.SiteStore.refused in
    let old = c.args.machines.now in
    let new = c.begin.new.machines in
    let goes = sym c.is_stop.ensures ∙ c.if-is_stop.false in
    let first = subst (λ r. ComesTo clean sound view old new r (λ db. IsOne (λ begun. Begins begun.txn begun.heard.items) call.Begin)) c.in-Err.is c.begin.ensures in
    record { comes = as_kind clean sound view old new (Err c.in-Err.refusal) _ (λ blamed. tt) (λ stop. clash stop goes) (λ db of n is moves k. inr k) first; own = tt }
