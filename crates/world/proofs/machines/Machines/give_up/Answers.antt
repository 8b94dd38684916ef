-- Why `give_up` meets its contract.
use Rattle.world.proofs.Counting.{none_fewer}
use Rattle.world.specs.Counted.{counts, counts_of}
use Rattle.std.proofs.Common.{◌∙◌, rules, ap, ◌∷◌}
use Rattle.protocol.specs.Desk.{Give_up}
use Rattle.protocol.specs.Letters.{txn_name}
use Rattle.desk.specs.Request.{txn_in}
use Rattle.desk.specs.State.{volatile_of}
use Rattle.world.specs.Contents.{held}
use Rattle.world.proofs.Ends.{give_up_accepted, give_up_explained}
use Rattle.world.proofs.Machinery.{asked_leads}
use Rattle.world.proofs.SiteSteps.{if_ok}
use Rattle.world.proofs.Listing.{list_asked, stands_by_store}
use Rattle.world.proofs.Running.{over_of}
use Rattle.std.proofs.Common.{refl}
use Rattle.world.proofs.machines.Machines.give_up.Goals as goal

pub returns-clause-ok : goal.returns-clause-ok
returns-clause-ok g c = λ db choice over fit.
    let before = held g.D.DeskStore.kept g.S.SiteStore.kept c.args.self.now in
    let new = c.give_up.new.self in
    let txn = txn_in db before.table c.args.txn in
    if_ok c.give_up.result (λ out steps. asked_leads db before (g.D.DeskStore.kept new.store) (volatile_of new.volatile) new.later.items (c.give_up.ensures.plainly.later ∙ fit.single) c.args.txn choice Give_up out.letters out.replies fit steps tt (give_up_explained (txn_name c.args.txn) choice txn) (give_up_accepted txn))
    (c.give_up.ensures.ok db choice over fit.desk)

pub returns-clause-leaves : goal.returns-clause-leaves
returns-clause-leaves g c = record {
  clean = search rules;
  sound = search rules;
  counts = none_fewer (counts g.D.DeskStore.refused g.S.SiteStore.refused c.args.self.now) (g.D.DeskStore.refused c.give_up.new.self.store ∷ counts_of g.S.SiteStore.refused c.args.self.now.sites.items)
      (ap (λ store. g.D.DeskStore.refused store ∷ counts_of g.S.SiteStore.refused c.args.self.now.sites.items) c.give_up.ensures.plainly.store);
  catalog = search rules;
  later = search rules;
}

pub returns-clause-lists : goal.returns-clause-lists
returns-clause-lists g c = λ db choice of stands fit.
    let before = held g.D.DeskStore.kept g.S.SiteStore.kept c.args.self.now in
    let old = c.args.self.now.desk in
    let new = c.give_up.new.self in
    let plainly = c.give_up.ensures.plainly in
    let txn = txn_in db before.table c.args.txn in
    if_ok c.give_up.result (λ out steps. (
      list_asked db before (g.D.DeskStore.kept new.store) (volatile_of new.volatile) new.later.items plainly.later c.args.txn choice Give_up out.letters out.replies fit steps tt (give_up_explained (txn_name c.args.txn) choice txn) refl (give_up_accepted txn),
      stands_by_store db g.D.DeskStore.kept old new plainly.store plainly.catalog plainly.later fit.desk steps.fits stands,
    )) (c.give_up.ensures.ok db choice (over_of db _ old.catalog of stands.here) fit.desk)
