-- Why `statement` meets its contract.
use Rattle.world.proofs.Counting.{none_fewer}
use Rattle.catalog.specs.FragmentLeaf.{schemas_of}
use Rattle.desk.specs.Transition.{is_moving}
use Rattle.world.specs.Listed.{ListStated, StandsIn}
use Rattle.std.proofs.Common.{◌≡◌, false, IfOk, None, ◌∷◌, rules, ap, ◌∙◌}
use Rattle.protocol.specs.Desk.{State, refusal}
use Rattle.meaning.specs.declared.statement.Statement.{Statement}
use Rattle.desk.specs.Request.{txn_in}
use Rattle.desk.specs.State.{volatile_of}
use Rattle.world.specs.Contents.{held}
use Rattle.world.proofs.Machinery.{asked_leads}
use Rattle.world.proofs.SiteSteps.{if_ok_all}
use Rattle.world.proofs.Refusing.{statement_refused, some, if_err}
use Rattle.world.specs.Counted.{counts, counts_of}
use Rattle.catalog.specs.Relation.{catalogue_of}
use Rattle.desk.specs.CatalogueDatabase.{database}
use Rattle.world.proofs.Stops.{statement_stops}
use Rattle.world.proofs.Listing.{list_asked, may_state, stands_by_store}
use Rattle.world.proofs.SiteSteps.{if_ok_too}
use Rattle.world.proofs.machines.Machines.statement.Goals as goal

pub returns-clause-ok : goal.returns-clause-ok
returns-clause-ok g c = λ db of is fit.
    let before = held g.D.DeskStore.kept g.S.SiteStore.kept c.args.self.now in
    let new = c.state.new.self in
    let txn = txn_in db before.table c.args.txn in
    if_ok_all c.state.result (λ (s : Statement). refusal (State (before.table.version, s)) txn ≡ None) (λ out accepted states. record {
      statement = states.statement;
      choice = states.runs.choice;
      spelled = states.spelled;
      fits = record { of_schemas = states.fits; stays = states.runs.ordinary };
      asked = asked_leads db before (g.D.DeskStore.kept new.store) (volatile_of new.volatile) new.later.items (c.state.ensures.states.plainly.later ∙ fit.single) c.args.txn states.runs.choice (State (before.table.version, states.statement)) out.letters out.replies fit states.runs.steps states.runs.placed states.runs.explained (accepted states.statement);
    }) (λ s. c.state.ensures.states.accepted db s) (c.state.ensures.ok db of is fit.desk)

pub returns-clause-told : goal.returns-clause-told
returns-clause-told g c = λ db of is fits. statement_refused db c.args.self.now.desk.later.items (volatile_of c.args.self.now.desk.volatile) c.args.txn c.args.text.now c.args.self.now.desk.catalog (of.schemas _ ∙ ap schemas_of is) c.state.result (c.state.ensures.told db) (c.state.ensures.full db of is fits)

pub returns-clause-blames : goal.returns-clause-blames
returns-clause-blames g c = if_err c.state.result (λ told why. statement_stops (counts g.D.DeskStore.refused g.S.SiteStore.refused c.args.self.now) (g.D.DeskStore.refused c.state.new.self.store ∷ counts_of g.S.SiteStore.refused c.args.self.now.sites.items) told _ _ _ _ why) (c.state.ensures.told (database (catalogue_of c.args.self.now.desk.catalog)) some)

pub returns-clause-leaves : goal.returns-clause-leaves
returns-clause-leaves g c = record {
  clean = search rules;
  sound = search rules;
  counts = none_fewer (counts g.D.DeskStore.refused g.S.SiteStore.refused c.args.self.now) (g.D.DeskStore.refused c.state.new.self.store ∷ counts_of g.S.SiteStore.refused c.args.self.now.sites.items)
      (ap (λ store. g.D.DeskStore.refused store ∷ counts_of g.S.SiteStore.refused c.args.self.now.sites.items) c.state.ensures.states.plainly.store);
  catalog = search rules;
  later = search rules;
}

pub returns-clause-lists : goal.returns-clause-lists
returns-clause-lists g c = λ db of stands fit.
    let before = held g.D.DeskStore.kept g.S.SiteStore.kept c.args.self.now in
    let old = c.args.self.now.desk in
    let new = c.state.new.self in
    let states = c.state.ensures.states in
    let txn = txn_in db before.table c.args.txn in
    let stated : IfOk c.state.result (λ out. is_moving (before.table.standing c.args.txn) ≡ false → ListStated db c.args.txn c.args.text.now before (held g.D.DeskStore.kept g.S.SiteStore.kept (record { alloc = c.args.self.now.alloc; desk = new; sites = c.args.self.now.sites; traffic = c.args.self.now.traffic })) out.letters out.replies × StandsIn db new) =
    (if_ok_all c.state.result (λ (s : Statement). refusal (State (before.table.version, s)) txn ≡ None) (λ out accepted stated still. (
      record {
        statement = stated.statement;
        choice = stated.runs.choice;
        spelled = stated.spelled;
        fits = record { of_schemas = stated.fits; stays = stated.runs.ordinary };
        asked = list_asked db before (g.D.DeskStore.kept new.store) (volatile_of new.volatile) new.later.items states.plainly.later c.args.txn stated.runs.choice (State (before.table.version, stated.statement)) out.letters out.replies fit stated.runs.steps stated.runs.placed stated.runs.explained
            (may_state db before c.args.txn stated.statement still stated.runs.ordinary) (accepted stated.statement);
      },
      stands_by_store db g.D.DeskStore.kept old new states.plainly.store states.plainly.catalog states.plainly.later fit.desk stated.runs.steps.fits stands,
    )) (λ s. states.accepted db s) (c.state.ensures.ok db of stands.here fit.desk)) in
    if_ok_too c.state.result (λ out still so. so still) states.still stated
