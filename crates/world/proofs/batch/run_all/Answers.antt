-- Why `run_all` meets its contract.
use Rattle.world.proofs.Deeds.{made_version}
use Rattle.world.proofs.InForce.{in_force_on}
use Rattle.std.proofs.Common.{◌∙◌, ◌+◌, ◌++◌, ◌∷◌, List, [], refl, sym, ap, subst, take, arith, Ok, Err, inr, IfOk}
use Rattle.std.specs.Prelude.{⊤}
use Rattle.std.proofs.lemmas.List.{take_all}
use Rattle.world.specs.declared.transaction.Outcome as outcomes
use Rattle.world.specs.declared.transaction.Transaction.{Transaction}
use Rattle.world.specs.Batch.{RunsAll, RunsOne}
use Rattle.world.specs.Contents.{OfStores, counted}
use Rattle.world.specs.Counted.{counts}
use Rattle.world.specs.Frame.{HasMade}
use Rattle.world.specs.ListServed.{ListMade}
use Rattle.world.specs.Stopping.{StopsFor}
use Rattle.world.proofs.BatchCalls.{runs_into, went_well, well_then}
use Rattle.world.proofs.Batches.{runs_next, stops_here}
use Rattle.world.proofs.Calls.{leaves_of, stays}
use Rattle.world.proofs.ListCalls.{made_on, makes_on}
use Rattle.world.proofs.ListDelivering.{on_then}
use Rattle.world.proofs.Reaching.{same_on}
use Rattle.world.proofs.Stops.{memory_stops}
use Rattle.world.proofs.Leaves.{ends_last}
use Rattle.world.proofs.batch.run_all.Goals as goal

pub loop-transaction-init : goal.loop-transaction-init
loop-transaction-init g c =
    let clean = OfStores g.D.DeskStore.is_clean g.S.SiteStore.is_clean in
    let sound = OfStores g.D.DeskStore.is_sound g.S.SiteStore.is_sound in
    let view = counted g.D.DeskStore.kept g.S.SiteStore.kept g.D.DeskStore.refused g.S.SiteStore.refused in
    let old = c.args.machines.now in
    stays clean sound view old (Ok tt) tt (λ db of n is. inr (subst (λ (done : List outcomes.Outcome). RunsAll [] done []) (sym c.new-outcomes.ensures.items) refl))

pub loop-transaction-preserved : goal.loop-transaction-preserved
loop-transaction-preserved g c =
    let clean = OfStores g.D.DeskStore.is_clean g.S.SiteStore.is_clean in
    let sound = OfStores g.D.DeskStore.is_sound g.S.SiteStore.is_sound in
    let view = counted g.D.DeskStore.kept g.S.SiteStore.kept g.D.DeskStore.refused g.S.SiteStore.refused in
    let old = c.args.machines.now in
    let one = went_well clean sound view (λ db outcome moves. RunsOne c.transaction-item.result outcome moves) (RunsOne c.transaction-item.result c.in-Ok.outcome) c.loop-transaction.machines c.run_one.new.machines c.in-Ok.outcome (λ db moves runs. runs) c.in-Ok.ensures in
    well_then clean sound view old c.loop-transaction.machines c.run_one.new.machines (RunsAll (take c.loop-transaction.transaction-index c.args.transactions.now) c.loop-transaction.outcomes.items) _ _
    (λ front last runs runs_one. subst (λ (done : List outcomes.Outcome). RunsAll (take (c.loop-transaction.transaction-index + 1) c.args.transactions.now) done (front ++ last)) (sym (c.push_reserved.ensures.items ∙ ap (λ (done : List outcomes.Outcome). done ++ c.in-Ok.outcome ∷ []) c.make_room.ensures.items))
    (runs_next c.args.transactions.now c.loop-transaction.transaction-index _ c.transaction-item.result c.loop-transaction.outcomes.items (omega arith) c.transaction-item.is c.in-Ok.outcome front last runs runs_one))
    c.loop-transaction.invariant one

pub returns-clause-ok : goal.returns-clause-ok
returns-clause-ok g c = λ db of is clean sound fit.
    subst (λ (all : List Transaction). HasMade db (counted g.D.DeskStore.kept g.S.SiteStore.kept g.D.DeskStore.refused g.S.SiteStore.refused c.args.machines.now) (counted g.D.DeskStore.kept g.S.SiteStore.kept g.D.DeskStore.refused g.S.SiteStore.refused c.loop-transaction.machines) (RunsAll all c.loop-transaction.outcomes.items))
    (take_all c.loop-transaction.transaction-index c.args.transactions.now (omega arith)) (c.loop-transaction.invariant.moves db of is clean sound fit)

pub returns-clause-leaves : goal.returns-clause-leaves
returns-clause-leaves g c = leaves_of g.D.DeskStore.is_clean g.S.SiteStore.is_clean g.D.DeskStore.is_sound g.S.SiteStore.is_sound g.D.DeskStore.kept g.S.SiteStore.kept g.D.DeskStore.refused g.S.SiteStore.refused c.args.machines.now c.loop-transaction.machines (Ok tt) c.loop-transaction.invariant

pub returns-clause-served : goal.returns-clause-served
returns-clause-served g c = c.loop-transaction.invariant.served

-- memory ran out behind those that were run
pub returns-in-Err-clause-stops : goal.returns-in-Err-clause-stops
returns-in-Err-clause-stops g c = λ db of is clean sound fit law.
    let before = counted g.D.DeskStore.kept g.S.SiteStore.kept g.D.DeskStore.refused g.S.SiteStore.refused c.args.machines.now in
    let here = counted g.D.DeskStore.kept g.S.SiteStore.kept g.D.DeskStore.refused g.S.SiteStore.refused c.loop-transaction.machines in
    stops_here c.args.transactions.now c.loop-transaction.transaction-index _ c.transaction-item.result c.loop-transaction.outcomes.items (omega arith) c.transaction-item.is db before here here _ (c.stop.ensures.0 ∙ c.make_room.ensures.items)
    (c.loop-transaction.invariant.moves db of is clean sound fit)
    (λ whole past served. same_on db law whole here here past served refl)

pub returns-in-Err-clause-leaves : goal.returns-in-Err-clause-leaves
returns-in-Err-clause-leaves g c = leaves_of g.D.DeskStore.is_clean g.S.SiteStore.is_clean g.D.DeskStore.is_sound g.S.SiteStore.is_sound g.D.DeskStore.kept g.S.SiteStore.kept g.D.DeskStore.refused g.S.SiteStore.refused c.args.machines.now c.loop-transaction.machines (Ok tt) c.loop-transaction.invariant

pub returns-in-Err-clause-served : goal.returns-in-Err-clause-served
returns-in-Err-clause-served g c = c.loop-transaction.invariant.served

pub returns-in-Err-clause-blames : goal.returns-in-Err-clause-blames
returns-in-Err-clause-blames g c = λ clean sound. memory_stops (counts g.D.DeskStore.refused g.S.SiteStore.refused c.args.machines.now) (counts g.D.DeskStore.refused g.S.SiteStore.refused c.loop-transaction.machines) c.stop.result.refusal (c.stop.ensures.1 ∙ c.in-Err.ensures.memory)

-- the next one was stopped
pub returns-in-Err-run_one-clause-stops : goal.returns-in-Err-run_one-clause-stops
returns-in-Err-run_one-clause-stops g c = λ db of is clean sound fit law.
    let before = counted g.D.DeskStore.kept g.S.SiteStore.kept g.D.DeskStore.refused g.S.SiteStore.refused c.args.machines.now in
    let middle = counted g.D.DeskStore.kept g.S.SiteStore.kept g.D.DeskStore.refused g.S.SiteStore.refused c.loop-transaction.machines in
    let after = counted g.D.DeskStore.kept g.S.SiteStore.kept g.D.DeskStore.refused g.S.SiteStore.refused c.run_one.new.machines in
    let comes = c.in-Err-run_one.ensures.comes in
    let clean_here = comes.clean clean in
    let so_far = c.loop-transaction.invariant.moves db of is clean_here sound fit in
    stops_here c.args.transactions.now c.loop-transaction.transaction-index _ c.transaction-item.result c.loop-transaction.outcomes.items (omega arith) c.transaction-item.is db before middle after _ (c.stop-in-Err-run_one.ensures.0 ∙ c.make_room.ensures.items)
    so_far
    (λ whole past served. comes.served db whole past of law (in_force_on db _ _ _ _ (made_version db so_far.moves before middle so_far.made) (ends_last c.loop-transaction.invariant.catalogs fit.single).0 is) clean (c.loop-transaction.invariant.sound clean_here sound) served)

pub returns-in-Err-run_one-clause-leaves : goal.returns-in-Err-run_one-clause-leaves
returns-in-Err-run_one-clause-leaves g c =
    let clean = OfStores g.D.DeskStore.is_clean g.S.SiteStore.is_clean in
    let sound = OfStores g.D.DeskStore.is_sound g.S.SiteStore.is_sound in
    let view = counted g.D.DeskStore.kept g.S.SiteStore.kept g.D.DeskStore.refused g.S.SiteStore.refused in
    let old = c.args.machines.now in
    let both = runs_into clean sound view (λ db (x : Unit {0}) moves. ⊤) old c.loop-transaction.machines c.run_one.new.machines (RunsAll (take c.loop-transaction.transaction-index c.args.transactions.now) c.loop-transaction.outcomes.items) (Err c.in-Err-run_one.refusal) c.in-Err-run_one.refusal refl c.in-Err-run_one.ensures.own c.loop-transaction.invariant c.in-Err-run_one.ensures.comes in
    leaves_of g.D.DeskStore.is_clean g.S.SiteStore.is_clean g.D.DeskStore.is_sound g.S.SiteStore.is_sound g.D.DeskStore.kept g.S.SiteStore.kept g.D.DeskStore.refused g.S.SiteStore.refused old c.run_one.new.machines (Err c.in-Err-run_one.refusal) both.comes

pub returns-in-Err-run_one-clause-served : goal.returns-in-Err-run_one-clause-served
returns-in-Err-run_one-clause-served g c =
    let clean = OfStores g.D.DeskStore.is_clean g.S.SiteStore.is_clean in
    let sound = OfStores g.D.DeskStore.is_sound g.S.SiteStore.is_sound in
    let view = counted g.D.DeskStore.kept g.S.SiteStore.kept g.D.DeskStore.refused g.S.SiteStore.refused in
    let old = c.args.machines.now in
    let both = runs_into clean sound view (λ db (x : Unit {0}) moves. ⊤) old c.loop-transaction.machines c.run_one.new.machines (RunsAll (take c.loop-transaction.transaction-index c.args.transactions.now) c.loop-transaction.outcomes.items) (Err c.in-Err-run_one.refusal) c.in-Err-run_one.refusal refl c.in-Err-run_one.ensures.own c.loop-transaction.invariant c.in-Err-run_one.ensures.comes in
    both.comes.served

pub returns-in-Err-run_one-clause-blames : goal.returns-in-Err-run_one-clause-blames
returns-in-Err-run_one-clause-blames g c = λ is_clean is_sound.
    let clean = OfStores g.D.DeskStore.is_clean g.S.SiteStore.is_clean in
    let sound = OfStores g.D.DeskStore.is_sound g.S.SiteStore.is_sound in
    let view = counted g.D.DeskStore.kept g.S.SiteStore.kept g.D.DeskStore.refused g.S.SiteStore.refused in
    let old = c.args.machines.now in
    let both = runs_into clean sound view (λ db (x : Unit {0}) moves. ⊤) old c.loop-transaction.machines c.run_one.new.machines (RunsAll (take c.loop-transaction.transaction-index c.args.transactions.now) c.loop-transaction.outcomes.items) (Err c.in-Err-run_one.refusal) c.in-Err-run_one.refusal refl c.in-Err-run_one.ensures.own c.loop-transaction.invariant c.in-Err-run_one.ensures.comes in
    subst (StopsFor (counts g.D.DeskStore.refused g.S.SiteStore.refused c.args.machines.now) (counts g.D.DeskStore.refused g.S.SiteStore.refused c.run_one.new.machines)) (sym c.stop-in-Err-run_one.ensures.1) (both.comes.blames is_clean is_sound)

-- over lists
pub returns-clause-lists : goal.returns-clause-lists
returns-clause-lists g c = λ db whole past listed stands clean sound served.
    let made = c.loop-transaction.invariant.lists db whole past listed stands clean sound served in
    ((subst (λ (all : List Transaction). ListMade db whole (counted g.D.DeskStore.kept g.S.SiteStore.kept g.D.DeskStore.refused g.S.SiteStore.refused c.loop-transaction.machines) past (RunsAll all c.loop-transaction.outcomes.items)) (take_all c.loop-transaction.transaction-index c.args.transactions.now (omega arith)) made.0, tt), made.1)

pub returns-in-Err-clause-lists : goal.returns-in-Err-clause-lists
returns-in-Err-clause-lists g c = λ db whole past listed stands clean sound served.
    let made = c.loop-transaction.invariant.lists db whole past listed stands clean sound served in
    ((tt, made_on db whole (counted g.D.DeskStore.kept g.S.SiteStore.kept g.D.DeskStore.refused g.S.SiteStore.refused c.loop-transaction.machines) past _ made.0), made.1)

pub returns-in-Err-run_one-clause-lists : goal.returns-in-Err-run_one-clause-lists
returns-in-Err-run_one-clause-lists g c = λ db whole past listed stands is_clean is_sound served.
    let comes = c.in-Err-run_one.ensures.comes in
    let clean_here = comes.clean is_clean in
    let made = c.loop-transaction.invariant.lists db whole past listed stands clean_here is_sound served in
    let more = comes.lists db whole (past ++ made.0.deeds) listed made.1 is_clean (c.loop-transaction.invariant.sound clean_here is_sound) made.0.served in
    ((tt, on_then db whole (counted g.D.DeskStore.kept g.S.SiteStore.kept g.D.DeskStore.refused g.S.SiteStore.refused c.run_one.new.machines) past made.0.deeds (makes_on db whole {T = outcomes.Outcome} (counted g.D.DeskStore.kept g.S.SiteStore.kept g.D.DeskStore.refused g.S.SiteStore.refused c.run_one.new.machines) (past ++ made.0.deeds) (Err c.in-Err-run_one.refusal) (λ done moves. IfOk done (λ outcome. RunsOne c.transaction-item.result outcome moves)) more.0)), more.1)
