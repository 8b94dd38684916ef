-- Why `begin` meets its contract.
use Rattle.world.proofs.Counting.{none_fewer}
use Rattle.desk.specs.State.{volatile_of}
use Rattle.world.specs.Contents.{held}
use Rattle.world.proofs.Machinery.{begin_leads}
use Rattle.world.proofs.SiteSteps.{if_ok}
use Rattle.world.specs.Counted.{counts, counts_of}
use Rattle.std.proofs.Common.{◌∷◌, ◌∙◌, rules, ap, sym}
use Rattle.protocol.specs.Desk.{is_desk_within}
use Rattle.world.proofs.Refusing.{if_err}
use Rattle.world.proofs.Stops.{begin_stops}
use Rattle.world.proofs.InForce.{begin_refused}
use Rattle.world.proofs.Listing.{list_begin, may_begin_where, stands_by_store}
use Rattle.world.proofs.Running.{over_of}
use Rattle.world.proofs.SiteSteps.{if_ok_too}
use Rattle.world.proofs.machines.Machines.begin.Goals as goal

pub returns-clause-ok : goal.returns-clause-ok
returns-clause-ok g c = λ db over fit.
    let before = held g.D.DeskStore.kept g.S.SiteStore.kept c.args.self.now in
    let new = c.begin.new.self in
    if_ok c.begin.result (λ out begun. begin_leads db before (g.D.DeskStore.kept new.store) (volatile_of new.volatile) new.later.items (c.begin.ensures.plainly.later ∙ fit.single) out.letters out.replies fit begun) (c.begin.ensures.ok db over fit.desk)

pub returns-clause-within : goal.returns-clause-within
returns-clause-within g c = λ db over fits. if_ok c.begin.result (λ out begun. ap is_desk_within (sym begun.state) ∙ begun.within) (c.begin.ensures.ok db over fits)

pub returns-clause-full : goal.returns-clause-full
returns-clause-full g c = λ db over fits.
    begin_refused db c.args.self.now.desk.later.items (volatile_of c.args.self.now.desk.volatile) c.begin.result c.begin.ensures.own (λ full. c.begin.ensures.full db over fits full) c.begin.ensures.alone

pub returns-clause-blames : goal.returns-clause-blames
returns-clause-blames g c = if_err c.begin.result (begin_stops (counts g.D.DeskStore.refused g.S.SiteStore.refused c.args.self.now) (g.D.DeskStore.refused c.begin.new.self.store ∷ counts_of g.S.SiteStore.refused c.args.self.now.sites.items)) c.begin.ensures.own

pub returns-clause-leaves : goal.returns-clause-leaves
returns-clause-leaves g c = record {
  clean = search rules;
  sound = search rules;
  counts = none_fewer (counts g.D.DeskStore.refused g.S.SiteStore.refused c.args.self.now) (g.D.DeskStore.refused c.begin.new.self.store ∷ counts_of g.S.SiteStore.refused c.args.self.now.sites.items)
      (ap (λ store. g.D.DeskStore.refused store ∷ counts_of g.S.SiteStore.refused c.args.self.now.sites.items) c.begin.ensures.plainly.store);
  catalog = search rules;
  later = search rules;
}

pub returns-clause-lists : goal.returns-clause-lists
returns-clause-lists g c = λ db of stands fit.
    let before = held g.D.DeskStore.kept g.S.SiteStore.kept c.args.self.now in
    let old = c.args.self.now.desk in
    let new = c.begin.new.self in
    let plainly = c.begin.ensures.plainly in
    if_ok_too c.begin.result (λ out free begun. (
      record { leads = list_begin db before (g.D.DeskStore.kept new.store) (volatile_of new.volatile) new.later.items plainly.later out.letters out.replies fit begun; may = may_begin_where db before free; within = ap is_desk_within (sym begun.state) ∙ begun.within },
      stands_by_store db g.D.DeskStore.kept old new plainly.store plainly.catalog plainly.later fit.desk begun.fits stands,
    )) c.begin.ensures.accepted (c.begin.ensures.ok db (over_of db _ old.catalog of stands.here) fit.desk)
