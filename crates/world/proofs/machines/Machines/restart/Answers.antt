-- Why `restart` meets its contract.
use Rattle.world.proofs.Counting.{no_fewer}
use Rattle.world.specs.Counted.{counts_of}
use Rattle.std.proofs.Common.{◌∙◌, rules, inl, inr, ⊎_elim}
use Rattle.desk.specs.State.{volatile_of}
use Rattle.world.specs.Contents.{held}
use Rattle.world.proofs.Machinery.{restart_leads}
use Rattle.world.proofs.SiteSteps.{if_ok}
use Rattle.world.proofs.Refusals.{desk_fails}
use Rattle.world.proofs.Listing.{list_restart, stands_as}
use Rattle.world.proofs.Running.{over_of}
use Rattle.world.proofs.Listing.{stays_by}
use Rattle.world.proofs.machines.Machines.restart.Goals as goal

pub returns-clause-ok : goal.returns-clause-ok
returns-clause-ok g c = λ db over clean sound fit.
    let before = held g.D.DeskStore.kept g.S.SiteStore.kept c.args.self.now in
    let new = c.restart_kept.new.self in
    if_ok c.restart_kept.result (λ out restarts. restart_leads db before (g.D.DeskStore.kept new.store) (volatile_of new.volatile) new.later.items (c.restart_kept.ensures.restarts.later ∙ fit.single) out.letters out.replies fit restarts) (c.restart_kept.ensures.restarts.ok db over clean.0 fit.desk)

pub returns-clause-leaves : goal.returns-clause-leaves
returns-clause-leaves g c = record {
  clean = search rules;
  sound = search rules;
  counts = (c.restart_kept.ensures.restarts.begins.leaves.counts, no_fewer (counts_of g.S.SiteStore.refused c.args.self.now.sites.items));
  catalog = search rules;
  later = search rules;
}

pub returns-clause-told : goal.returns-clause-told
returns-clause-told g c =
    let D = g.D.DeskStore in
    let S = g.S.SiteStore in
    let old = c.args.self.now in
    let new = c.restart_kept.new.self in
    let begins = c.restart_kept.ensures.restarts.begins in
    desk_fails c.restart_kept.result _ _ c.args.kept old.desk.catalog.0 (D.kept old.desk.store) (D.kept new.store) begins.own
    (λ is. ⊎_elim (λ unmade. inl unmade) (λ more. inr (inl more)) (c.restart_kept.ensures.refusal is))
    (λ so is. begins.damaged so.0.0 so.1.0 is) (λ so is. begins.full so.0.0 is) (λ so. begins.same so.0.0 so.1.0)

pub returns-clause-lists : goal.returns-clause-lists
returns-clause-lists g c = λ db of stands clean sound fit.
    let before = held g.D.DeskStore.kept g.S.SiteStore.kept c.args.self.now in
    let old = c.args.self.now.desk in
    let new = c.restart_kept.new.self in
    let restarts = c.restart_kept.ensures.restarts in
    if_ok c.restart_kept.result (λ out restarted. (
      list_restart db before (g.D.DeskStore.kept new.store) (volatile_of new.volatile) new.later.items out.letters out.replies fit restarted,
      stands_as db old new restarted.version restarts.catalog restarts.later stands,
    )) (restarts.ok db (over_of db _ old.catalog of stands.here) clean.0 fit.desk)

pub returns-clause-stays : goal.returns-clause-stays
returns-clause-stays g c = stays_by c.restart_kept.result c.args.self.now c.restart_kept.new.self c.restart_kept.ensures.restarts.err c.restart_kept.ensures.restarts.catalog c.restart_kept.ensures.restarts.later
