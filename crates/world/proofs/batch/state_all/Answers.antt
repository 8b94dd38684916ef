-- Why `state_all` meets its contract.
use Rattle.std.proofs.Common.{◌∙◌, ◌+◌, ◌++◌, ◌∷◌, [], List, ℕ, false, true, refl, sym, ap, subst, map, take, arith, Ok, ◌≡◌, inr}
use Rattle.std.specs.Prelude.{⊤}
use Rattle.std.proofs.lemmas.List.{take_all}
use Rattle.world.specs.declared.event.Call.TheVariants as call
use Rattle.world.specs.declared.transaction.Came as cames
use Rattle.world.specs.Batch.{Makes, moved}
use Rattle.world.specs.Contents.{OfStores, counted}
use Rattle.world.specs.Course.{Move, States}
use Rattle.world.proofs.BatchCalls.{came_of, runs_into, runs_out, runs_well, stopped_by, well_then}
use Rattle.world.proofs.Batches.{next_last, next_open}
use Rattle.world.proofs.Calls.{stays}
use Rattle.world.proofs.batch.state_all.Goals as goal

pub loop-text-init : goal.loop-text-init
loop-text-init g c =
    let clean = OfStores g.D.DeskStore.is_clean g.S.SiteStore.is_clean in
    let sound = OfStores g.D.DeskStore.is_sound g.S.SiteStore.is_sound in
    let view = counted g.D.DeskStore.kept g.S.SiteStore.kept g.D.DeskStore.refused g.S.SiteStore.refused in
    let old = c.args.machines.now in
    stays clean sound view old (Ok tt) tt (λ db of n is. inr (subst (λ (came : List cames.Came). Makes [] came false []) (sym c.new-came.ensures.items) (refl, refl)))

pub loop-text-preserved : goal.loop-text-preserved
loop-text-preserved g c =
    let clean = OfStores g.D.DeskStore.is_clean g.S.SiteStore.is_clean in
    let sound = OfStores g.D.DeskStore.is_sound g.S.SiteStore.is_sound in
    let view = counted g.D.DeskStore.kept g.S.SiteStore.kept g.D.DeskStore.refused g.S.SiteStore.refused in
    let old = c.args.machines.now in
    well_then clean sound view old c.loop-text.machines c.state.new.machines (Makes (map (λ text. call.State c.args.txn text) (take c.loop-text.text-index c.args.texts.now)) c.loop-text.came.items false) (λ moves. moves ≡ moved (call.State c.args.txn c.as_str.result.now) c.in_ok-one.one) _
    (λ one two makes is. subst (λ (came : List cames.Came). Makes (map (λ text. call.State c.args.txn text) (take (c.loop-text.text-index + 1) c.args.texts.now)) came false (one ++ two)) (sym (c.push_reserved.ensures.items ∙ ap (λ (came : List cames.Came). came ++ c.in_ok-one.one ∷ []) c.make_room.ensures.items))
    (subst (λ (more : List Move). Makes (map (λ text. call.State c.args.txn text) (take (c.loop-text.text-index + 1) c.args.texts.now)) (c.loop-text.came.items ++ c.in_ok-one.one ∷ []) false (one ++ more)) (sym is)
    (next_open c.args.txn c.args.texts.now c.loop-text.text-index _ c.as_str.result.now c.loop-text.came.items c.in_ok-one.one one (omega arith) (c.as_str.ensures ∙ c.text-item.is) makes (sym (c.has_ended-ended.ensures c.args.txn c.as_str.result.now) ∙ c.if-ended.false))))
    c.loop-text.invariant (came_of clean sound view (λ heard. heard.items) (call.State c.args.txn c.as_str.result.now) (λ heard. States c.args.txn c.as_str.result.now heard.items) c.loop-text.machines c.state.new.machines c.state.result c.told.result c.in_ok-one.one c.in_ok-one.was (λ heard. refl) (λ why. refl) c.told.ensures.heard c.told.ensures.refused c.state.ensures)

pub returns-then-ended : goal.returns-then-ended
returns-then-ended g c =
    let clean = OfStores g.D.DeskStore.is_clean g.S.SiteStore.is_clean in
    let sound = OfStores g.D.DeskStore.is_sound g.S.SiteStore.is_sound in
    let view = counted g.D.DeskStore.kept g.S.SiteStore.kept g.D.DeskStore.refused g.S.SiteStore.refused in
    let old = c.args.machines.now in
    let both = well_then clean sound view old c.loop-text.machines c.state.new.machines (Makes (map (λ text. call.State c.args.txn text) (take c.loop-text.text-index c.args.texts.now)) c.loop-text.came.items false) (λ moves. moves ≡ moved (call.State c.args.txn c.as_str.result.now) c.in_ok-one.one) (Makes (map (λ text. call.State c.args.txn text) c.args.texts.now) c.push_reserved.new.self.items true)
    (λ one two makes is. subst (λ (came : List cames.Came). Makes (map (λ text. call.State c.args.txn text) c.args.texts.now) came true (one ++ two)) (sym (c.push_reserved.ensures.items ∙ ap (λ (came : List cames.Came). came ++ c.in_ok-one.one ∷ []) c.make_room.ensures.items))
    (subst (λ (more : List Move). Makes (map (λ text. call.State c.args.txn text) c.args.texts.now) (c.loop-text.came.items ++ c.in_ok-one.one ∷ []) true (one ++ more)) (sym is)
    (next_last c.args.txn c.args.texts.now c.loop-text.text-index _ c.as_str.result.now c.loop-text.came.items c.in_ok-one.one one (omega arith) (c.as_str.ensures ∙ c.text-item.is) makes (sym (c.has_ended-ended.ensures c.args.txn c.as_str.result.now) ∙ c.if-ended.true))))
    c.loop-text.invariant (came_of clean sound view (λ heard. heard.items) (call.State c.args.txn c.as_str.result.now) (λ heard. States c.args.txn c.as_str.result.now heard.items) c.loop-text.machines c.state.new.machines c.state.result c.told.result c.in_ok-one.one c.in_ok-one.was (λ heard. refl) (λ why. refl) c.told.ensures.heard c.told.ensures.refused c.state.ensures) in
    runs_well clean sound view _ old c.state.new.machines _ _ (λ db moves makes. makes) both

pub returns : goal.returns
returns g c =
    let clean = OfStores g.D.DeskStore.is_clean g.S.SiteStore.is_clean in
    let sound = OfStores g.D.DeskStore.is_sound g.S.SiteStore.is_sound in
    let view = counted g.D.DeskStore.kept g.S.SiteStore.kept g.D.DeskStore.refused g.S.SiteStore.refused in
    let old = c.args.machines.now in
    runs_well clean sound view _ old c.loop-text.machines (Makes (map (λ text. call.State c.args.txn text) (take c.loop-text.text-index c.args.texts.now)) c.loop-text.came.items false) _
    (λ db moves makes. subst (λ (texts : List (List ℕ)). Makes (map (λ (text : List ℕ). call.State c.args.txn text) texts) c.loop-text.came.items false moves) (take_all c.loop-text.text-index c.args.texts.now (omega arith)) makes) c.loop-text.invariant

pub returns-in_err-make_room : goal.returns-in_err-make_room
returns-in_err-make_room g c =
    let clean = OfStores g.D.DeskStore.is_clean g.S.SiteStore.is_clean in
    let sound = OfStores g.D.DeskStore.is_sound g.S.SiteStore.is_sound in
    let view = counted g.D.DeskStore.kept g.S.SiteStore.kept g.D.DeskStore.refused g.S.SiteStore.refused in
    let old = c.args.machines.now in
    runs_out clean sound view _ old c.loop-text.machines (Makes (map (λ text. call.State c.args.txn text) (take c.loop-text.text-index c.args.texts.now)) c.loop-text.came.items false) c.from_residual.result c.in_err-make_room.field-0.0 c.from_residual.ensures.1 c.in_err-make_room.ensures.memory c.loop-text.invariant

pub returns-in_err-one : goal.returns-in_err-one
returns-in_err-one g c =
    let clean = OfStores g.D.DeskStore.is_clean g.S.SiteStore.is_clean in
    let sound = OfStores g.D.DeskStore.is_sound g.S.SiteStore.is_sound in
    let view = counted g.D.DeskStore.kept g.S.SiteStore.kept g.D.DeskStore.refused g.S.SiteStore.refused in
    let old = c.args.machines.now in
    let stop = stopped_by clean sound view {U = Unit {0}} (λ heard. heard.items) c.loop-text.machines c.state.new.machines c.state.result c.told.result c.in_err-one.field-0.0 _ (λ db done moves. ⊤) c.in_err-one.was c.told.ensures.heard c.told.ensures.refused c.state.ensures in
    runs_into clean sound view _ {T = Unit {0}} old c.loop-text.machines c.state.new.machines (Makes (map (λ text. call.State c.args.txn text) (take c.loop-text.text-index c.args.texts.now)) c.loop-text.came.items false) c.from_residual-in_err-one.result c.in_err-one.field-0.0 c.from_residual-in_err-one.ensures.1 stop.0 c.loop-text.invariant stop.1
