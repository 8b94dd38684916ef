-- Why `decided` meets its contract.
use Rattle.std.proofs.Common.{rules, ◌≡◌, ◌∙◌, ap, sym, subst, map}
use Rattle.desk.specs.State.{volatile_of}
use Rattle.world.specs.Counted.{counts_of}
use Rattle.world.specs.Settled.{AreDecided}
use Rattle.world.proofs.Counting.{no_fewer}
use Rattle.world.proofs.SettledSites.{decided_are}
use Rattle.world.proofs.rebuild.decided.Goals as goal

pub returns-clause-all : goal.returns-clause-all
returns-clause-all g c = λ clean sound rows.
    let kept = g.D.DeskStore.kept in
    let desk = c.args.machines.now.desk in
    let all : c.in_ok-txns_of.field-0.items ≡ map (λ row. row.txn) c.in_ok-kept.kept.commits = c.in_ok-txns_of.ensures ∙ ap (map (λ row. row.txn)) c.as_slice.ensures in
    subst (AreDecided (volatile_of desk.volatile)) (sym all)
    (decided_are (kept desk.store) (kept c.kept.new.self.store) (volatile_of desk.volatile) c.in_ok-kept.kept rows (c.kept.ensures.same clean.0 sound.0) (c.in_ok-kept.ensures.all clean.0))

pub returns-in_err-kept-clause-leaves : goal.returns-in_err-kept-clause-leaves
returns-in_err-kept-clause-leaves g c = record {
  clean = search rules;
  sound = search rules;
  counts = (c.kept.ensures.leaves_store.counts, no_fewer (counts_of g.S.SiteStore.refused c.args.machines.now.sites.items));
  catalog = search rules;
  later = search rules;
}

pub returns-in_err-txns_of-clause-leaves : goal.returns-in_err-txns_of-clause-leaves
returns-in_err-txns_of-clause-leaves g c = record {
  clean = search rules;
  sound = search rules;
  counts = (c.kept.ensures.leaves_store.counts, no_fewer (counts_of g.S.SiteStore.refused c.args.machines.now.sites.items));
  catalog = search rules;
  later = search rules;
}

pub returns-clause-leaves : goal.returns-clause-leaves
returns-clause-leaves g c = record {
  clean = search rules;
  sound = search rules;
  counts = (c.kept.ensures.leaves_store.counts, no_fewer (counts_of g.S.SiteStore.refused c.args.machines.now.sites.items));
  catalog = search rules;
  later = search rules;
}
