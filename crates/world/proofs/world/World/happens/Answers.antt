-- Why `World::happens` meets its contract.
use Rattle.world.proofs.Leaves.{database_still}
use Rattle.std.proofs.Common.{inl, refl, sym, subst, ◌++◌, List}
use Rattle.world.specs.declared.event.Entry.{Entry}
use Rattle.world.specs.Contents.{OfStores, counted, held}
use Rattle.world.specs.Refused.{IsRefusedFor}
use Rattle.world.specs.Counted.{HaveRefused, counts}
use Rattle.world.specs.declared.event.Event.{Event}
use Rattle.world.specs.Runs.{IsRun, Spares, entry_of}
use Rattle.world.proofs.Running.{spares_pushed, step_pushed}
use Rattle.world.specs.Runs.{IsRun}
use Rattle.world.proofs.ListIsBase.{list_holds}
use Rattle.world.proofs.Listing.{desk_stays}
use Rattle.world.proofs.SiteSteps.{on_any_err}
use Rattle.world.proofs.world.World.happens.Goals as goal

pub returns-in-Err-clause-refused : goal.returns-in-Err-clause-refused
returns-in-Err-clause-refused g c = λ db listed stands fit.
    let D = g.D.DeskStore in
    let S = g.S.SiteStore in
    let old = c.args.self.now.machines in
    let new = c.apply_event.new.machines in
    subst (λ (entries : List Entry). IsRefusedFor (OfStores D.is_clean S.is_clean new × OfStores D.is_sound S.is_sound old) db (counted D.kept S.kept D.refused S.refused old) (counted D.kept S.kept D.refused S.refused new) entries c.args.event c.in-Err.fault) c.in_ok-make_room.ensures.items
    (c.in-Err.ensures.refused db listed.base.of_catalogue stands fit)

pub returns-in-Ok-clause-spared : goal.returns-in-Ok-clause-spared
returns-in-Ok-clause-spared g c = λ db past listed stands clean sound fit.
    let before = held g.D.DeskStore.kept g.S.SiteStore.kept c.args.self.now.machines in
    let after = held g.D.DeskStore.kept g.S.SiteStore.kept c.apply_event.new.machines in
    let refused = HaveRefused (counts g.D.DeskStore.refused g.S.SiteStore.refused c.args.self.now.machines) (counts g.D.DeskStore.refused g.S.SiteStore.refused c.apply_event.new.machines) in
    let spares = spares_pushed refused db before after _ _ _ past (entry_of c.args.event c.in-Ok.out) c.args.event c.in_ok-make_room.ensures.items c.push.ensures
    (c.in-Ok.ensures.spared db past listed.base.of_catalogue stands clean sound fit) in
    λ number whether is. subst (λ (what : Event). Spares refused db before after c.args.self.now.entries.items c.push.new.self.items past what) is spares

pub returns-in_err-make_room-clause-leaves : goal.returns-in_err-make_room-clause-leaves
returns-in_err-make_room-clause-leaves g c = database_still g.D.DeskStore.is_clean g.S.SiteStore.is_clean g.D.DeskStore.is_sound g.S.SiteStore.is_sound g.D.DeskStore.refused g.S.SiteStore.refused c.args.self.now.machines

pub returns-in-Ok-clause-goes_on : goal.returns-in-Ok-clause-goes_on
returns-in-Ok-clause-goes_on g c = λ db whole past listed stands clean sound run.
    let before = held g.D.DeskStore.kept g.S.SiteStore.kept c.args.self.now.machines in
    let after = held g.D.DeskStore.kept g.S.SiteStore.kept c.apply_event.new.machines in
    let with_room = subst (λ (entries : List Entry). IsRun db whole before entries past) (sym c.in_ok-make_room.ensures.items) run in
    let did = c.in-Ok.ensures.ok db whole past listed.base.of_catalogue stands clean sound with_room in
    let on = step_pushed db whole before after _ _ _ past (entry_of c.args.event c.in-Ok.out) c.in_ok-make_room.ensures.items c.push.ensures did.0 in
    ((on, list_holds db listed whole after c.push.new.self.items (past ++ on.deeds) on.run_on), did.1)

pub returns-in_err-make_room-clause-stays : goal.returns-in_err-make_room-clause-stays
returns-in_err-make_room-clause-stays g c = on_any_err c.from_residual.result (desk_stays c.args.self.now.machines c.args.self.now.machines refl)

pub returns-in_err-make_room-clause-follows : goal.returns-in_err-make_room-clause-follows
returns-in_err-make_room-clause-follows g c = inl (refl, refl)
