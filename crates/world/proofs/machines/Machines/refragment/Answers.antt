-- Why `refragment` meets its contract.
use Rattle.std.proofs.Common.{◌∷◌, ◌∙◌, inr, rules, sym, ap}
use Rattle.catalog.specs.FragmentLeaf.{schemas_of}
use Rattle.catalog.specs.Relation.{catalogue_of}
use Rattle.desk.specs.State.{volatile_of}
use Rattle.world.specs.Counted.{counts, counts_of}
use Rattle.world.proofs.Counting.{none_fewer}
use Rattle.world.proofs.Refusing.{if_err, refragment_refused}
use Rattle.world.proofs.Stops.{refragment_stops}
use Rattle.world.proofs.Listing.{first_next, list_moved, stands_by_store}
use Rattle.world.proofs.SiteSteps.{if_ok_too}
use Rattle.world.specs.Contents.{held}
use Rattle.world.proofs.machines.Machines.refragment.Goals as goal

pub returns-clause-told : goal.returns-clause-told
returns-clause-told g c = λ db of is fits.
    let old = c.args.self.now.desk in
    let asked = c.refragment.ensures.refragments in
    refragment_refused db old.later.items (volatile_of old.volatile) old.catalog is (of.schemas _) c.args.text.now c.refragment.result asked.own asked.alone asked.none (asked.full db fits)

pub returns-clause-blames : goal.returns-clause-blames
returns-clause-blames g c = if_err c.refragment.result (refragment_stops (counts g.D.DeskStore.refused g.S.SiteStore.refused c.args.self.now) (g.D.DeskStore.refused c.refragment.new.self.store ∷ counts_of g.S.SiteStore.refused c.args.self.now.sites.items) (schemas_of (catalogue_of c.args.self.now.desk.catalog)) c.args.text.now) c.refragment.ensures.refragments.own

pub returns-clause-leaves : goal.returns-clause-leaves
returns-clause-leaves g c = record {
  clean = search rules;
  sound = search rules;
  counts = none_fewer (counts g.D.DeskStore.refused g.S.SiteStore.refused c.args.self.now) (g.D.DeskStore.refused c.refragment.new.self.store ∷ counts_of g.S.SiteStore.refused c.args.self.now.sites.items)
      (ap (λ store. g.D.DeskStore.refused store ∷ counts_of g.S.SiteStore.refused c.args.self.now.sites.items) c.refragment.ensures.refragments.plainly.store);
  catalog = search rules;
  later = search rules;
}

pub returns-clause-lists : goal.returns-clause-lists
returns-clause-lists g c = λ db of stands fit.
    let before = held g.D.DeskStore.kept g.S.SiteStore.kept c.args.self.now in
    let old = c.args.self.now.desk in
    let new = c.refragment.new.self in
    let asked = c.refragment.ensures.refragments in
    if_ok_too c.refragment.result (λ out some by. (
      list_moved db before (g.D.DeskStore.kept new.store) (volatile_of new.volatile) new.later.items (λ none. some (sym asked.plainly.later ∙ none)) c.args.text.now out.letters out.replies fit by,
      stands_by_store db g.D.DeskStore.kept old new asked.plainly.store asked.plainly.catalog asked.plainly.later fit.desk by.does.fits stands,
    )) asked.next (asked.ok db of stands.here (first_next db old.volatile.version old.later.items stands.next) fit.desk)

pub returns-clause-finds_none : goal.returns-clause-finds_none
returns-clause-finds_none g c = λ none. inr (c.refragment.ensures.refragments.none none)
