-- Why `run_course` meets its contract.
use Rattle.std.proofs.Common.{refl, sym, [], List, Bool, Ok, ◌≡◌, true, false, map, subst, inr}
use Rattle.std.specs.Prelude.{⊤}
use Rattle.world.specs.Batch.{Makes, MakesMore, calls_of, calls_of_end}
use Rattle.world.specs.Contents.{OfStores, counted}
use Rattle.world.specs.declared.event.Call.TheVariants as call
use Rattle.world.specs.declared.transaction.Came as cames
use Rattle.world.proofs.BatchCalls.{runs_into, runs_well, went_well, well_then}
use Rattle.world.proofs.Batches.{course_made}
use Rattle.world.proofs.Calls.{stays}
use Rattle.world.proofs.batch.run_course.Goals as goal

pub returns : goal.returns
returns g c =
    let clean = OfStores g.D.DeskStore.is_clean g.S.SiteStore.is_clean in
    let sound = OfStores g.D.DeskStore.is_sound g.S.SiteStore.is_sound in
    let view = counted g.D.DeskStore.kept g.S.SiteStore.kept g.D.DeskStore.refused g.S.SiteStore.refused in
    let old = c.args.machines.now in
    let one = went_well clean sound view (λ db stated moves. Makes (map (λ text. call.State c.args.begun.txn text) c.as_slice.result.now) stated.came.items stated.ended moves) (λ moves. Makes (map (λ text. call.State c.args.begun.txn text) c.as_slice.result.now) c.in_ok-stated.stated.came.items c.in_ok-stated.stated.ended moves) old c.state_all.new.machines c.in_ok-stated.stated (λ db moves makes. makes) c.in_ok-stated.ensures in
    let two = went_well clean sound view (λ db came moves. (c.in_ok-stated.stated.ended ≡ false → MakesMore (calls_of_end c.args.transaction.now.end c.args.begun.txn) c.in_ok-stated.stated.came.items came.items moves) × (c.in_ok-stated.stated.ended ≡ true → (came.items ≡ c.in_ok-stated.stated.came.items) × (moves ≡ []))) (λ moves. (c.in_ok-stated.stated.ended ≡ false → MakesMore (calls_of_end c.args.transaction.now.end c.args.begun.txn) c.in_ok-stated.stated.came.items c.in_ok-came.came.items moves) × (c.in_ok-stated.stated.ended ≡ true → (c.in_ok-came.came.items ≡ c.in_ok-stated.stated.came.items) × (moves ≡ []))) c.state_all.new.machines c.finish.new.machines c.in_ok-came.came (λ db moves makes. makes) c.in_ok-came.ensures in
    let both = well_then clean sound view old c.state_all.new.machines c.finish.new.machines _ _ (λ moves. (over : Bool) × Makes (calls_of c.args.transaction.now c.args.begun.txn) c.in_ok-came.came.items over moves)
    (λ first more stated finished. course_made c.args.transaction.now c.args.begun.txn c.as_slice.result.now c.in_ok-stated.stated.came.items c.in_ok-came.came.items c.in_ok-stated.stated.ended first more c.as_slice.ensures stated finished) one two in
    runs_well clean sound view _ old c.finish.new.machines _ _
    (λ db moves makes. (refl, c.new.ensures, subst (λ (came : List cames.Came). (ended : Bool) × Makes (calls_of c.args.transaction.now c.args.begun.txn) came ended moves) (sym c.new-2.ensures) makes)) both

pub returns-in_err-stated : goal.returns-in_err-stated
returns-in_err-stated g c =
    let clean = OfStores g.D.DeskStore.is_clean g.S.SiteStore.is_clean in
    let sound = OfStores g.D.DeskStore.is_sound g.S.SiteStore.is_sound in
    let view = counted g.D.DeskStore.kept g.S.SiteStore.kept g.D.DeskStore.refused g.S.SiteStore.refused in
    let old = c.args.machines.now in
    runs_into clean sound view _ old old c.state_all.new.machines (λ moves. ⊤) c.from_residual.result c.in_err-stated.field-0.0 c.from_residual.ensures.1 c.in_err-stated.ensures.own
    (stays clean sound view old (Ok tt) tt (λ db of n is. inr tt)) c.in_err-stated.ensures.comes

pub returns-in_err-came : goal.returns-in_err-came
returns-in_err-came g c =
    let clean = OfStores g.D.DeskStore.is_clean g.S.SiteStore.is_clean in
    let sound = OfStores g.D.DeskStore.is_sound g.S.SiteStore.is_sound in
    let view = counted g.D.DeskStore.kept g.S.SiteStore.kept g.D.DeskStore.refused g.S.SiteStore.refused in
    let old = c.args.machines.now in
    let one = went_well clean sound view (λ db stated moves. Makes (map (λ text. call.State c.args.begun.txn text) c.as_slice.result.now) stated.came.items stated.ended moves) (λ moves. Makes (map (λ text. call.State c.args.begun.txn text) c.as_slice.result.now) c.in_ok-stated.stated.came.items c.in_ok-stated.stated.ended moves) old c.state_all.new.machines c.in_ok-stated.stated (λ db moves makes. makes) c.in_ok-stated.ensures in
    runs_into clean sound view _ old c.state_all.new.machines c.finish.new.machines _ c.from_residual-in_err-came.result c.in_err-came.field-0.0 c.from_residual-in_err-came.ensures.1 c.in_err-came.ensures.own one c.in_err-came.ensures.comes
