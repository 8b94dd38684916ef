use Rattle.std.proofs.Common.{◌∷◌, [], Err, IfErr, List, Ok, Option, Result, ap, inl, inr, map, subst, sym, ◌∙◌, ℕ}
use Rattle.store.specs.declared.fault.StoreFault.{StoreFault}
use Rattle.lines.specs.declared.fault.ProgramFault.{ProgramFault}
use Rattle.lines.specs.Input.{IsOfOutput}
use Rattle.catalog.specs.Catalogue.{Catalogue}
use Rattle.catalog.specs.Relation.{catalogue_of}
use Rattle.desk.specs.CatalogueDatabase.{database, databases}
use Rattle.world.specs.Listed.{IsListed}
use Rattle.commands.specs.Play.{PlaysItems, StopsItems}
use Rattle.databases.specs.Schedule.{HasRun, world_over}
use Rattle.databases.specs.WorldOpener.{IsChainOpened, IsOpenedOver}
use Rattle.commands.proofs.PlayLemmas.{PlaysAll-weaker}
use Rattle.commands.proofs.SessionLemmas.{on_ok}
use Rattle.databases.proofs.ChainLemmas.{first_is}
use Rattle.commands.proofs.play.play_over.Goals as goal

pub returns-clause-ok : goal.returns-clause-ok
returns-clause-ok g c = λ first rest is.
    let seen = world_over g.D.DeskStore.is_clean g.S.SiteStore.is_clean g.D.DeskStore.is_sound g.S.SiteStore.is_sound g.D.DeskStore.kept g.S.SiteStore.kept g.D.DeskStore.refused g.S.SiteStore.refused in
    let db = databases first rest in
    let whole = c.args.whole.now in
    let opening = c.new-schedule.result in
    let ended = c.play_and_send.new.schedule in
    let leaves = c.play_and_send.ensures.leaves in
    let opened : IsChainOpened seen first rest whole opening.world = subst (IsChainOpened seen first rest whole) (sym c.new-schedule.ensures.world) (c.in_ok-world.ensures.lists first rest is) in
    let listed = c.chain_is_listed.ensures first rest is in
    let began = λ (clean : seen.is_clean ended.world).
    let then = leaves.clean clean in
    let has : HasRun seen db whole opening.world = record { listed = listed; sound = opened.sound then; stands = opened.stands then; reached = rw opened.none ([], opened.run then) } in
    has in
    let runs = λ (clean : seen.is_clean ended.world). leaves.runs db whole clean (began clean) in
    on_ok c.play_and_send.result
    (λ (ran : PlaysItems seen c.args.items.now (g.W.Write.contents c.args.output.now) (g.W.Write.contents c.play_and_send.new.output) opening ended). record {
      opening = opening;
      opens = record { entries = opened.none; txns = c.new-schedule.ensures.txns; names = c.new-schedule.ensures.names; came = c.new-schedule.ensures.came };
      number = opened.number;
      catalogs = opened.catalogs;
      ended = ended;
      left = leaves.catalogs;
      told = ran.told;
      plays = PlaysAll-weaker seen {Q = seen.is_clean ended.world} db whole c.args.items.now opening ended ran.told (λ clean. (clean, began clean)) (ran.plays db whole);
      stands = λ clean. (runs clean).stands;
      run = λ clean. (runs clean).reached;
      serial = λ clean. c.runs_are_serial.ensures db listed whole (seen.machines ended.world) (seen.entries ended.world) (runs clean).reached.0 (runs clean).reached.1;
      alone = λ none.
          let one = is ∙ ap (λ (rest : List Catalogue). first ∷ rest) none in
          let own = database first in
          let over : IsOpenedOver seen first whole opening.world = subst (IsOpenedOver seen first whole) (sym c.new-schedule.ensures.world) (c.in_ok-world.ensures.ok first one) in
          let here = first_is c.args.chain.now c.first_of-first.result.now c.first_of-first.ensures.0 first [] c.first_of-first.ensures.1 one in
          let lawful : IsListed own = subst (λ (first : Catalogue). IsListed (database first)) here c.catalogue_is_listed.ensures in
          let begun = λ (clean : seen.is_clean ended.world).
          let then = leaves.clean clean in
          let has : HasRun seen own whole opening.world = record { listed = lawful; sound = over.sound then; stands = over.stands then; reached = rw over.none ([], over.run then) } in
          has in
          let goes = λ (clean : seen.is_clean ended.world). leaves.runs own whole clean (begun clean) in
          record {
            catalog = over.catalog;
            last = ap (map catalogue_of) over.single;
            plays = PlaysAll-weaker seen {Q = seen.is_clean ended.world} own whole c.args.items.now opening ended ran.told (λ clean. (clean, begun clean)) (ran.plays own whole);
            run = λ clean. (goes clean).reached;
            serial = λ clean. c.runs_are_serial.ensures own lawful whole (seen.machines ended.world) (seen.entries ended.world) (goes clean).reached.0 (goes clean).reached.1;
          };
      said = ran.said;
    })
    c.play_and_send.ensures.ok

-- a fault of a write stops items
written_stops : (Fails : StoreFault → Type 0) (old new : Option (List ℕ)) (fault : ProgramFault) → IsOfOutput fault → StopsItems Fails old new fault
written_stops Fails old new fault (inl memory) = rw memory tt
written_stops Fails old new fault (inr closed) = rw closed tt

stops_items : {T : Type 0} (Fails : StoreFault → Type 0) (old new : Option (List ℕ)) (result : Result T ProgramFault) → IfErr result IsOfOutput → IfErr result (StopsItems Fails old new)
stops_items Fails old new (Ok x) why = tt
stops_items Fails old new (Err fault) why = written_stops Fails old new fault why

pub returns-clause-err : goal.returns-clause-err
returns-clause-err g c = stops_items g.O.OpensWorld.fails_for (g.W.Write.contents c.args.output.now) (g.W.Write.contents c.play_and_send.new.output) c.play_and_send.result c.play_and_send.ensures.err
