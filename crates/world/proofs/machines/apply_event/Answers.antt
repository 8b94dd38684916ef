-- Why `apply_event` meets its contract.
use Rattle.world.proofs.Leaves.{database_still, leaves_so}
use Rattle.std.proofs.Common.{ℕ, List, ◌++◌, ◌∷◌, [], ◌∙◌, inl, refl, sym, ap, subst, true, IfErr, IfOk}
use Rattle.catalog.specs.Catalogue.{Catalogue}
use Rattle.protocol.specs.World.{Desk_restarts, desk_restarts}
use Rattle.world.specs.declared.event.Event as events
use Rattle.world.specs.declared.event.Event.TheVariants as event
use Rattle.world.specs.Contents.{OfStores, counted, held}
use Rattle.world.specs.Machines.{world_of}
use Rattle.world.specs.Refused.{IsRefusedFor}
use Rattle.world.specs.Counted.{HaveRefused, counts}
use Rattle.world.specs.Runs.{Spares, StepsOn, entry_of}
use Rattle.world.proofs.CallsKept.{any_ok}
use Rattle.world.proofs.SiteSteps.{if_ok_too}
use Rattle.world.proofs.Refusals.{by_desk_err, call_refused, desk_refused}
use Rattle.world.proofs.Running.{by_desk_ok}
use Rattle.world.proofs.Told.{desk_restarts_silent}
use Rattle.world.specs.Frame.{StaysInForce}
use Rattle.world.specs.Listed.{StandsIn}
use Rattle.world.specs.Runs.{StepsOn}
use Rattle.world.proofs.Listing.{by_desk_stays, desk_stays}
use Rattle.world.proofs.ListRunning.{list_restarts_on}
use Rattle.world.proofs.SiteSteps.{on_any_err}
use Rattle.world.proofs.machines.apply_event.Goals as goal

pub returns-in-Call-clause-refused : goal.returns-in-Call-clause-refused
returns-in-Call-clause-refused g c = λ db of stands fit.
    let D = g.D.DeskStore in
    let S = g.S.SiteStore in
    let old = c.args.machines.now in
    let new = c.call.new.machines in
    let sound = OfStores D.is_clean S.is_clean new × OfStores D.is_sound S.is_sound old in
    let before = counted D.kept S.kept D.refused S.refused old in
    let after = counted D.kept S.kept D.refused S.refused new in
    subst (λ (what : events.Event). IfErr c.by_desk.result (IsRefusedFor sound db before after c.args.log.now.items what)) (sym c.in-Call.is)
    (by_desk_err (IsRefusedFor sound db before after c.args.log.now.items (event.Call c.in-Call.asked)) c.call.result c.by_desk.result c.by_desk.ensures
    (call_refused sound db before after c.args.log.now.items c.call.result c.in-Call.asked (c.call.ensures.refused db of stands.here fit.desk)))

pub returns-in-DeskRestarts-clause-refused : goal.returns-in-DeskRestarts-clause-refused
returns-in-DeskRestarts-clause-refused g c = λ db of stands fit.
    let D = g.D.DeskStore in
    let S = g.S.SiteStore in
    let old = c.args.machines.now in
    let new = c.restart.new.self in
    let sound = OfStores D.is_clean S.is_clean new × OfStores D.is_sound S.is_sound old in
    let before = counted D.kept S.kept D.refused S.refused old in
    let after = counted D.kept S.kept D.refused S.refused new in
    let kept = c.in-DeskRestarts.kept in
    subst (λ (what : events.Event). IfErr c.by_desk-in-DeskRestarts.result (IsRefusedFor sound db before after c.args.log.now.items what)) (sym c.in-DeskRestarts.is)
    (by_desk_err (IsRefusedFor sound db before after c.args.log.now.items (event.DeskRestarts kept)) c.restart.result c.by_desk-in-DeskRestarts.result c.by_desk-in-DeskRestarts.ensures
    (desk_refused sound db before after c.args.log.now.items c.restart.result kept _ (of.sites _ ∙ ap (λ (cat : Catalogue). cat.sites) stands.here) c.restart.ensures.told))

pub returns-in_ok-copy-in-SiteGivesUp-clause-refused : goal.returns-in_ok-copy-in-SiteGivesUp-clause-refused
returns-in_ok-copy-in-SiteGivesUp-clause-refused g c = λ db of stands fit.
    let D = g.D.DeskStore in
    let S = g.S.SiteStore in
    let old = c.args.machines.now in
    let new = c.apply_event_at.new.machines in
    let entries = c.args.log.now.items in
    subst (λ (what : events.Event). IfErr c.apply_event_at.result (IsRefusedFor (OfStores D.is_clean S.is_clean new × OfStores D.is_sound S.is_sound old) db (counted D.kept S.kept D.refused S.refused old) (counted D.kept S.kept D.refused S.refused new) entries what)) (sym c.in-SiteGivesUp.is)
    (c.apply_event_at.ensures.refused db entries (event.SiteGivesUp c.in-SiteGivesUp.site c.in-SiteGivesUp.ticket) of stands.here fit (ap (λ (site : List ℕ). event.SiteGivesUp site c.in-SiteGivesUp.ticket) (sym c.in_ok-copy-in-SiteGivesUp.ensures)))

pub returns-in_ok-copy-in-SiteInquires-clause-refused : goal.returns-in_ok-copy-in-SiteInquires-clause-refused
returns-in_ok-copy-in-SiteInquires-clause-refused g c = λ db of stands fit.
    let D = g.D.DeskStore in
    let S = g.S.SiteStore in
    let old = c.args.machines.now in
    let new = c.apply_event_at-in-SiteInquires.new.machines in
    let entries = c.args.log.now.items in
    subst (λ (what : events.Event). IfErr c.apply_event_at-in-SiteInquires.result (IsRefusedFor (OfStores D.is_clean S.is_clean new × OfStores D.is_sound S.is_sound old) db (counted D.kept S.kept D.refused S.refused old) (counted D.kept S.kept D.refused S.refused new) entries what)) (sym c.in-SiteInquires.is)
    (c.apply_event_at-in-SiteInquires.ensures.refused db entries (event.SiteInquires c.in-SiteInquires.site) of stands.here fit (ap (λ (site : List ℕ). event.SiteInquires site) (sym c.in_ok-copy-in-SiteInquires.ensures)))

pub returns-in_ok-copy-in-SiteRestarts-clause-refused : goal.returns-in_ok-copy-in-SiteRestarts-clause-refused
returns-in_ok-copy-in-SiteRestarts-clause-refused g c = λ db of stands fit.
    let D = g.D.DeskStore in
    let S = g.S.SiteStore in
    let old = c.args.machines.now in
    let new = c.apply_event_at-in-SiteRestarts.new.machines in
    let entries = c.args.log.now.items in
    subst (λ (what : events.Event). IfErr c.apply_event_at-in-SiteRestarts.result (IsRefusedFor (OfStores D.is_clean S.is_clean new × OfStores D.is_sound S.is_sound old) db (counted D.kept S.kept D.refused S.refused old) (counted D.kept S.kept D.refused S.refused new) entries what)) (sym c.in-SiteRestarts.is)
    (c.apply_event_at-in-SiteRestarts.ensures.refused db entries (event.SiteRestarts c.in-SiteRestarts.site c.in-SiteRestarts.kept) of stands.here fit (ap (λ (site : List ℕ). event.SiteRestarts site c.in-SiteRestarts.kept) (sym c.in_ok-copy-in-SiteRestarts.ensures)))

pub returns-in_err-copy-in-SiteGivesUp-clause-leaves : goal.returns-in_err-copy-in-SiteGivesUp-clause-leaves
returns-in_err-copy-in-SiteGivesUp-clause-leaves g c = database_still g.D.DeskStore.is_clean g.S.SiteStore.is_clean g.D.DeskStore.is_sound g.S.SiteStore.is_sound g.D.DeskStore.refused g.S.SiteStore.refused c.args.machines.now

pub returns-in_err-copy-in-SiteInquires-clause-leaves : goal.returns-in_err-copy-in-SiteInquires-clause-leaves
returns-in_err-copy-in-SiteInquires-clause-leaves g c = database_still g.D.DeskStore.is_clean g.S.SiteStore.is_clean g.D.DeskStore.is_sound g.S.SiteStore.is_sound g.D.DeskStore.refused g.S.SiteStore.refused c.args.machines.now

pub returns-in_err-copy-in-SiteRestarts-clause-leaves : goal.returns-in_err-copy-in-SiteRestarts-clause-leaves
returns-in_err-copy-in-SiteRestarts-clause-leaves g c = database_still g.D.DeskStore.is_clean g.S.SiteStore.is_clean g.D.DeskStore.is_sound g.S.SiteStore.is_sound g.D.DeskStore.refused g.S.SiteStore.refused c.args.machines.now

pub returns-in-Call-clause-leaves : goal.returns-in-Call-clause-leaves
returns-in-Call-clause-leaves g c = leaves_so g.D.DeskStore.is_clean g.S.SiteStore.is_clean g.D.DeskStore.is_sound g.S.SiteStore.is_sound g.D.DeskStore.refused g.S.SiteStore.refused c.args.machines.now c.call.new.machines c.call.ensures.leaves

pub returns-in-DeskRestarts-clause-leaves : goal.returns-in-DeskRestarts-clause-leaves
returns-in-DeskRestarts-clause-leaves g c = leaves_so g.D.DeskStore.is_clean g.S.SiteStore.is_clean g.D.DeskStore.is_sound g.S.SiteStore.is_sound g.D.DeskStore.refused g.S.SiteStore.refused c.args.machines.now c.restart.new.self c.restart.ensures.leaves

pub returns-in_ok-copy-in-SiteGivesUp-clause-leaves : goal.returns-in_ok-copy-in-SiteGivesUp-clause-leaves
returns-in_ok-copy-in-SiteGivesUp-clause-leaves g c = leaves_so g.D.DeskStore.is_clean g.S.SiteStore.is_clean g.D.DeskStore.is_sound g.S.SiteStore.is_sound g.D.DeskStore.refused g.S.SiteStore.refused c.args.machines.now c.apply_event_at.new.machines c.apply_event_at.ensures.leaves

pub returns-in_ok-copy-in-SiteInquires-clause-leaves : goal.returns-in_ok-copy-in-SiteInquires-clause-leaves
returns-in_ok-copy-in-SiteInquires-clause-leaves g c = leaves_so g.D.DeskStore.is_clean g.S.SiteStore.is_clean g.D.DeskStore.is_sound g.S.SiteStore.is_sound g.D.DeskStore.refused g.S.SiteStore.refused c.args.machines.now c.apply_event_at-in-SiteInquires.new.machines c.apply_event_at-in-SiteInquires.ensures.leaves

pub returns-in_ok-copy-in-SiteRestarts-clause-leaves : goal.returns-in_ok-copy-in-SiteRestarts-clause-leaves
returns-in_ok-copy-in-SiteRestarts-clause-leaves g c = leaves_so g.D.DeskStore.is_clean g.S.SiteStore.is_clean g.D.DeskStore.is_sound g.S.SiteStore.is_sound g.D.DeskStore.refused g.S.SiteStore.refused c.args.machines.now c.apply_event_at-in-SiteRestarts.new.machines c.apply_event_at-in-SiteRestarts.ensures.leaves

pub returns-in-Call-clause-spared : goal.returns-in-Call-clause-spared
returns-in-Call-clause-spared g c = λ db past of stands clean sound fit.
    let before = held g.D.DeskStore.kept g.S.SiteStore.kept c.args.machines.now in
    let after = held g.D.DeskStore.kept g.S.SiteStore.kept c.call.new.machines in
    let refused = HaveRefused (counts g.D.DeskStore.refused g.S.SiteStore.refused c.args.machines.now) (counts g.D.DeskStore.refused g.S.SiteStore.refused c.call.new.machines) in
    let entries = c.args.log.now.items in
    subst (λ (what : events.Event). IfOk c.by_desk.result (λ out. Spares refused db before after entries (entries ++ entry_of what out ∷ []) past what)) (sym c.in-Call.is) (any_ok c.by_desk.result (λ out. tt))

pub returns-in-DeskRestarts-clause-spared : goal.returns-in-DeskRestarts-clause-spared
returns-in-DeskRestarts-clause-spared g c = λ db past of stands clean sound fit.
    let before = held g.D.DeskStore.kept g.S.SiteStore.kept c.args.machines.now in
    let after = held g.D.DeskStore.kept g.S.SiteStore.kept c.restart.new.self in
    let refused = HaveRefused (counts g.D.DeskStore.refused g.S.SiteStore.refused c.args.machines.now) (counts g.D.DeskStore.refused g.S.SiteStore.refused c.restart.new.self) in
    let entries = c.args.log.now.items in
    subst (λ (what : events.Event). IfOk c.by_desk-in-DeskRestarts.result (λ out. Spares refused db before after entries (entries ++ entry_of what out ∷ []) past what)) (sym c.in-DeskRestarts.is) (any_ok c.by_desk-in-DeskRestarts.result (λ out. tt))

pub returns-in_ok-copy-in-SiteGivesUp-clause-spared : goal.returns-in_ok-copy-in-SiteGivesUp-clause-spared
returns-in_ok-copy-in-SiteGivesUp-clause-spared g c = λ db past of stands clean sound fit.
    let before = held g.D.DeskStore.kept g.S.SiteStore.kept c.args.machines.now in
    let after = held g.D.DeskStore.kept g.S.SiteStore.kept c.apply_event_at.new.machines in
    let refused = HaveRefused (counts g.D.DeskStore.refused g.S.SiteStore.refused c.args.machines.now) (counts g.D.DeskStore.refused g.S.SiteStore.refused c.apply_event_at.new.machines) in
    let entries = c.args.log.now.items in
    subst (λ (what : events.Event). IfOk c.apply_event_at.result (λ out. Spares refused db before after entries (entries ++ entry_of what out ∷ []) past what)) (sym c.in-SiteGivesUp.is) (any_ok c.apply_event_at.result (λ out. tt))

pub returns-in_ok-copy-in-SiteInquires-clause-spared : goal.returns-in_ok-copy-in-SiteInquires-clause-spared
returns-in_ok-copy-in-SiteInquires-clause-spared g c = λ db past of stands clean sound fit.
    let before = held g.D.DeskStore.kept g.S.SiteStore.kept c.args.machines.now in
    let after = held g.D.DeskStore.kept g.S.SiteStore.kept c.apply_event_at-in-SiteInquires.new.machines in
    let refused = HaveRefused (counts g.D.DeskStore.refused g.S.SiteStore.refused c.args.machines.now) (counts g.D.DeskStore.refused g.S.SiteStore.refused c.apply_event_at-in-SiteInquires.new.machines) in
    let entries = c.args.log.now.items in
    subst (λ (what : events.Event). IfOk c.apply_event_at-in-SiteInquires.result (λ out. Spares refused db before after entries (entries ++ entry_of what out ∷ []) past what)) (sym c.in-SiteInquires.is) (any_ok c.apply_event_at-in-SiteInquires.result (λ out. tt))

pub returns-in_ok-copy-in-SiteRestarts-clause-spared : goal.returns-in_ok-copy-in-SiteRestarts-clause-spared
returns-in_ok-copy-in-SiteRestarts-clause-spared g c = λ db past of stands clean sound fit.
    let before = held g.D.DeskStore.kept g.S.SiteStore.kept c.args.machines.now in
    let after = held g.D.DeskStore.kept g.S.SiteStore.kept c.apply_event_at-in-SiteRestarts.new.machines in
    let refused = HaveRefused (counts g.D.DeskStore.refused g.S.SiteStore.refused c.args.machines.now) (counts g.D.DeskStore.refused g.S.SiteStore.refused c.apply_event_at-in-SiteRestarts.new.machines) in
    let entries = c.args.log.now.items in
    subst (λ (what : events.Event). IfOk c.apply_event_at-in-SiteRestarts.result (λ out. Spares refused db before after entries (entries ++ entry_of what out ∷ []) past what)) (sym c.in-SiteRestarts.is) (any_ok c.apply_event_at-in-SiteRestarts.result (λ out. tt))

pub returns-in-Deliver-clause-spared : goal.returns-in-Deliver-clause-spared
returns-in-Deliver-clause-spared g c = λ db past of stands clean sound fit.
    let before = held g.D.DeskStore.kept g.S.SiteStore.kept c.args.machines.now in
    let after = held g.D.DeskStore.kept g.S.SiteStore.kept c.deliver.new.machines in
    let refused = HaveRefused (counts g.D.DeskStore.refused g.S.SiteStore.refused c.args.machines.now) (counts g.D.DeskStore.refused g.S.SiteStore.refused c.deliver.new.machines) in
    let entries = c.args.log.now.items in
    subst (λ (what : events.Event). IfOk c.deliver.result (λ out. Spares refused db before after entries (entries ++ entry_of what out ∷ []) past what)) (sym c.in-Deliver.is) (c.deliver.ensures.spared db past of stands clean sound fit)

pub returns-in-Call-clause-ok : goal.returns-in-Call-clause-ok
returns-in-Call-clause-ok g c = λ db whole past of stands clean sound so.
    let before = held g.D.DeskStore.kept g.S.SiteStore.kept c.args.machines.now in
    let after = held g.D.DeskStore.kept g.S.SiteStore.kept c.call.new.machines in
    let entries = c.args.log.now.items in
    subst (λ (what : events.Event). IfOk c.by_desk.result (λ out. StepsOn db whole before after entries (entries ++ entry_of what out ∷ []) past × StandsIn db c.call.new.machines.desk)) (sym c.in-Call.is)
    (by_desk_ok (λ out. StepsOn db whole before after entries (entries ++ entry_of (event.Call c.in-Call.asked) out ∷ []) past × StandsIn db c.call.new.machines.desk) c.call.result c.by_desk.result c.by_desk.ensures (c.call.ensures.ok db whole entries past of stands so))

pub returns-in-DeskRestarts-clause-ok : goal.returns-in-DeskRestarts-clause-ok
returns-in-DeskRestarts-clause-ok g c = λ db whole past of stands clean sound so.
    let before = held g.D.DeskStore.kept g.S.SiteStore.kept c.args.machines.now in
    let after = held g.D.DeskStore.kept g.S.SiteStore.kept c.restart.new.self in
    let entries = c.args.log.now.items in
    let kept = c.in-DeskRestarts.kept in
    let what = event.DeskRestarts kept in
    subst (λ (what : events.Event). IfOk c.by_desk-in-DeskRestarts.result (λ out. StepsOn db whole before after entries (entries ++ entry_of what out ∷ []) past × StandsIn db c.restart.new.self.desk)) (sym c.in-DeskRestarts.is)
    (by_desk_ok (λ out. StepsOn db whole before after entries (entries ++ entry_of what out ∷ []) past × StandsIn db c.restart.new.self.desk) c.restart.result c.by_desk-in-DeskRestarts.result c.by_desk-in-DeskRestarts.ensures
    (if_ok_too c.restart.result (λ out kept_so leads. (list_restarts_on db whole before after entries past what out desk_restarts (Desk_restarts true) so leads.0 refl (ap Desk_restarts (sym kept_so)) refl refl refl (desk_restarts_silent (world_of db before [] []) refl), leads.1))
    c.restart.ensures.called (c.restart.ensures.lists db of stands clean sound so.fit)))

pub returns-in-Deliver-clause-ok : goal.returns-in-Deliver-clause-ok
returns-in-Deliver-clause-ok g c = λ db whole past of stands clean sound so.
    let before = held g.D.DeskStore.kept g.S.SiteStore.kept c.args.machines.now in
    let after = held g.D.DeskStore.kept g.S.SiteStore.kept c.deliver.new.machines in
    let entries = c.args.log.now.items in
    subst (λ (what : events.Event). IfOk c.deliver.result (λ out. StepsOn db whole before after entries (entries ++ entry_of what out ∷ []) past × StandsIn db c.deliver.new.machines.desk)) (sym c.in-Deliver.is) (c.deliver.ensures.ok db whole past of stands clean sound so)

pub returns-in-Call-clause-stays : goal.returns-in-Call-clause-stays
returns-in-Call-clause-stays g c = by_desk_stays (StaysInForce c.args.machines.now c.call.new.machines) c.call.result c.by_desk.result c.by_desk.ensures c.call.ensures.stays

pub returns-in-DeskRestarts-clause-stays : goal.returns-in-DeskRestarts-clause-stays
returns-in-DeskRestarts-clause-stays g c = by_desk_stays (StaysInForce c.args.machines.now c.restart.new.self) c.restart.result c.by_desk-in-DeskRestarts.result c.by_desk-in-DeskRestarts.ensures c.restart.ensures.stays

pub returns-in_ok-copy-in-SiteGivesUp-clause-ok : goal.returns-in_ok-copy-in-SiteGivesUp-clause-ok
returns-in_ok-copy-in-SiteGivesUp-clause-ok g c = λ db whole past of stands clean sound so.
    let before = held g.D.DeskStore.kept g.S.SiteStore.kept c.args.machines.now in
    let after = held g.D.DeskStore.kept g.S.SiteStore.kept c.apply_event_at.new.machines in
    let entries = c.args.log.now.items in
    subst (λ (what : events.Event). IfOk c.apply_event_at.result (λ out. StepsOn db whole before after entries (entries ++ entry_of what out ∷ []) past × StandsIn db c.apply_event_at.new.machines.desk)) (sym c.in-SiteGivesUp.is)
    (c.apply_event_at.ensures.ok db whole entries (event.SiteGivesUp c.in-SiteGivesUp.site c.in-SiteGivesUp.ticket) past of stands clean sound (ap (λ (site : List ℕ). event.SiteGivesUp site c.in-SiteGivesUp.ticket) (sym c.in_ok-copy-in-SiteGivesUp.ensures)) so)

pub returns-in_ok-copy-in-SiteGivesUp-clause-stays : goal.returns-in_ok-copy-in-SiteGivesUp-clause-stays
returns-in_ok-copy-in-SiteGivesUp-clause-stays g c = on_any_err c.apply_event_at.result (desk_stays c.args.machines.now c.apply_event_at.new.machines c.apply_event_at.ensures.desk)

pub returns-in_err-copy-in-SiteGivesUp-clause-stays : goal.returns-in_err-copy-in-SiteGivesUp-clause-stays
returns-in_err-copy-in-SiteGivesUp-clause-stays g c = on_any_err c.from_residual.result (desk_stays c.args.machines.now c.args.machines.now refl)

pub returns-in_ok-copy-in-SiteInquires-clause-ok : goal.returns-in_ok-copy-in-SiteInquires-clause-ok
returns-in_ok-copy-in-SiteInquires-clause-ok g c = λ db whole past of stands clean sound so.
    let before = held g.D.DeskStore.kept g.S.SiteStore.kept c.args.machines.now in
    let after = held g.D.DeskStore.kept g.S.SiteStore.kept c.apply_event_at-in-SiteInquires.new.machines in
    let entries = c.args.log.now.items in
    subst (λ (what : events.Event). IfOk c.apply_event_at-in-SiteInquires.result (λ out. StepsOn db whole before after entries (entries ++ entry_of what out ∷ []) past × StandsIn db c.apply_event_at-in-SiteInquires.new.machines.desk)) (sym c.in-SiteInquires.is)
    (c.apply_event_at-in-SiteInquires.ensures.ok db whole entries (event.SiteInquires c.in-SiteInquires.site) past of stands clean sound (ap (λ (site : List ℕ). event.SiteInquires site) (sym c.in_ok-copy-in-SiteInquires.ensures)) so)

pub returns-in_ok-copy-in-SiteInquires-clause-stays : goal.returns-in_ok-copy-in-SiteInquires-clause-stays
returns-in_ok-copy-in-SiteInquires-clause-stays g c = on_any_err c.apply_event_at-in-SiteInquires.result (desk_stays c.args.machines.now c.apply_event_at-in-SiteInquires.new.machines c.apply_event_at-in-SiteInquires.ensures.desk)

pub returns-in_err-copy-in-SiteInquires-clause-stays : goal.returns-in_err-copy-in-SiteInquires-clause-stays
returns-in_err-copy-in-SiteInquires-clause-stays g c = on_any_err c.from_residual-in_err-copy-in-SiteInquires.result (desk_stays c.args.machines.now c.args.machines.now refl)

pub returns-in_ok-copy-in-SiteRestarts-clause-ok : goal.returns-in_ok-copy-in-SiteRestarts-clause-ok
returns-in_ok-copy-in-SiteRestarts-clause-ok g c = λ db whole past of stands clean sound so.
    let before = held g.D.DeskStore.kept g.S.SiteStore.kept c.args.machines.now in
    let after = held g.D.DeskStore.kept g.S.SiteStore.kept c.apply_event_at-in-SiteRestarts.new.machines in
    let entries = c.args.log.now.items in
    subst (λ (what : events.Event). IfOk c.apply_event_at-in-SiteRestarts.result (λ out. StepsOn db whole before after entries (entries ++ entry_of what out ∷ []) past × StandsIn db c.apply_event_at-in-SiteRestarts.new.machines.desk)) (sym c.in-SiteRestarts.is)
    (c.apply_event_at-in-SiteRestarts.ensures.ok db whole entries (event.SiteRestarts c.in-SiteRestarts.site c.in-SiteRestarts.kept) past of stands clean sound (ap (λ (site : List ℕ). event.SiteRestarts site c.in-SiteRestarts.kept) (sym c.in_ok-copy-in-SiteRestarts.ensures)) so)

pub returns-in_ok-copy-in-SiteRestarts-clause-stays : goal.returns-in_ok-copy-in-SiteRestarts-clause-stays
returns-in_ok-copy-in-SiteRestarts-clause-stays g c = on_any_err c.apply_event_at-in-SiteRestarts.result (desk_stays c.args.machines.now c.apply_event_at-in-SiteRestarts.new.machines c.apply_event_at-in-SiteRestarts.ensures.desk)

pub returns-in_err-copy-in-SiteRestarts-clause-stays : goal.returns-in_err-copy-in-SiteRestarts-clause-stays
returns-in_err-copy-in-SiteRestarts-clause-stays g c = on_any_err c.from_residual-in_err-copy-in-SiteRestarts.result (desk_stays c.args.machines.now c.args.machines.now refl)

pub returns-in-Call-clause-follows : goal.returns-in-Call-clause-follows
returns-in-Call-clause-follows g c = inl (c.call.ensures.leaves.catalog, c.call.ensures.leaves.later)

pub returns-in-DeskRestarts-clause-follows : goal.returns-in-DeskRestarts-clause-follows
returns-in-DeskRestarts-clause-follows g c = inl (c.restart.ensures.leaves.catalog, c.restart.ensures.leaves.later)

pub returns-in_ok-copy-in-SiteGivesUp-clause-follows : goal.returns-in_ok-copy-in-SiteGivesUp-clause-follows
returns-in_ok-copy-in-SiteGivesUp-clause-follows g c = inl (c.apply_event_at.ensures.leaves.catalog, c.apply_event_at.ensures.leaves.later)

pub returns-in_ok-copy-in-SiteInquires-clause-follows : goal.returns-in_ok-copy-in-SiteInquires-clause-follows
returns-in_ok-copy-in-SiteInquires-clause-follows g c = inl (c.apply_event_at-in-SiteInquires.ensures.leaves.catalog, c.apply_event_at-in-SiteInquires.ensures.leaves.later)

pub returns-in_ok-copy-in-SiteRestarts-clause-follows : goal.returns-in_ok-copy-in-SiteRestarts-clause-follows
returns-in_ok-copy-in-SiteRestarts-clause-follows g c = inl (c.apply_event_at-in-SiteRestarts.ensures.leaves.catalog, c.apply_event_at-in-SiteRestarts.ensures.leaves.later)

pub returns-in_err-copy-in-SiteGivesUp-clause-follows : goal.returns-in_err-copy-in-SiteGivesUp-clause-follows
returns-in_err-copy-in-SiteGivesUp-clause-follows g c = inl (refl, refl)

pub returns-in_err-copy-in-SiteInquires-clause-follows : goal.returns-in_err-copy-in-SiteInquires-clause-follows
returns-in_err-copy-in-SiteInquires-clause-follows g c = inl (refl, refl)

pub returns-in_err-copy-in-SiteRestarts-clause-follows : goal.returns-in_err-copy-in-SiteRestarts-clause-follows
returns-in_err-copy-in-SiteRestarts-clause-follows g c = inl (refl, refl)
