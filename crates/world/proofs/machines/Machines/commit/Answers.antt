-- Why `commit` meets its contract.
use Rattle.world.proofs.Counting.{none_fewer}
use Rattle.protocol.specs.Desk.{Commit_call}
use Rattle.protocol.specs.Letters.{txn_name}
use Rattle.desk.specs.Request.{txn_in}
use Rattle.desk.specs.State.{volatile_of}
use Rattle.world.specs.Contents.{held}
use Rattle.world.proofs.Ends.{commit_explained}
use Rattle.world.proofs.Machinery.{asked_leads}
use Rattle.world.proofs.SiteSteps.{if_ok_too}
use Rattle.world.specs.Counted.{counts, counts_of}
use Rattle.std.proofs.Common.{◌∙◌, ◌∷◌, rules, ap}
use Rattle.catalog.specs.Relation.{catalogue_of}
use Rattle.desk.specs.CatalogueDatabase.{database}
use Rattle.world.proofs.Refusing.{if_err}
use Rattle.world.proofs.Stops.{refused_stops}
use Rattle.world.proofs.Listing.{list_asked, stands_by_store}
use Rattle.world.proofs.Running.{over_of}
use Rattle.std.proofs.Common.{refl}
use Rattle.world.proofs.machines.Machines.commit.Goals as goal

pub returns-clause-ok : goal.returns-clause-ok
returns-clause-ok g c = λ db choice over fit.
    let before = held g.D.DeskStore.kept g.S.SiteStore.kept c.args.self.now in
    let new = c.commit.new.self in
    let txn = txn_in db before.table c.args.txn in
    if_ok_too c.commit.result (λ out accepted steps. asked_leads db before (g.D.DeskStore.kept new.store) (volatile_of new.volatile) new.later.items (c.commit.ensures.plainly.later ∙ fit.single) c.args.txn choice Commit_call out.letters out.replies fit steps tt (commit_explained (txn_name c.args.txn) choice txn) accepted)
    (c.commit.ensures.accepted db) (c.commit.ensures.ok db choice over fit.desk)

pub returns-clause-blames : goal.returns-clause-blames
returns-clause-blames g c = if_err c.commit.result (λ told why. refused_stops (counts g.D.DeskStore.refused g.S.SiteStore.refused c.args.self.now) (g.D.DeskStore.refused c.commit.new.self.store ∷ counts_of g.S.SiteStore.refused c.args.self.now.sites.items) told _ why) (c.commit.ensures.told (database (catalogue_of c.args.self.now.desk.catalog)))

pub returns-clause-leaves : goal.returns-clause-leaves
returns-clause-leaves g c = record {
  clean = search rules;
  sound = search rules;
  counts = none_fewer (counts g.D.DeskStore.refused g.S.SiteStore.refused c.args.self.now) (g.D.DeskStore.refused c.commit.new.self.store ∷ counts_of g.S.SiteStore.refused c.args.self.now.sites.items)
      (ap (λ store. g.D.DeskStore.refused store ∷ counts_of g.S.SiteStore.refused c.args.self.now.sites.items) c.commit.ensures.plainly.store);
  catalog = search rules;
  later = search rules;
}

pub returns-clause-lists : goal.returns-clause-lists
returns-clause-lists g c = λ db choice of stands fit.
    let before = held g.D.DeskStore.kept g.S.SiteStore.kept c.args.self.now in
    let old = c.args.self.now.desk in
    let new = c.commit.new.self in
    let plainly = c.commit.ensures.plainly in
    let txn = txn_in db before.table c.args.txn in
    if_ok_too c.commit.result (λ out accepted steps. (
      list_asked db before (g.D.DeskStore.kept new.store) (volatile_of new.volatile) new.later.items plainly.later c.args.txn choice Commit_call out.letters out.replies fit steps tt (commit_explained (txn_name c.args.txn) choice txn) refl accepted,
      stands_by_store db g.D.DeskStore.kept old new plainly.store plainly.catalog plainly.later fit.desk steps.fits stands,
    )) (c.commit.ensures.accepted db) (c.commit.ensures.ok db choice (over_of db _ old.catalog of stands.here) fit.desk)
