-- Why `Site::settled` meets its contract.
use Rattle.site.specs.State.{volatile_of}
use Rattle.site.proofs.SettledRows.{settles_still}
use Rattle.site.proofs.site.Site.settled.Goals as goal

pub returns-clause-ok : goal.returns-clause-ok
returns-clause-ok g c = λ clean fits.
    let kept = g.S.SiteStore.kept in
    let old = c.args.self.now in
    settles_still c.args.decided.now (kept old.store) (kept c.kept.new.self.store) (volatile_of old.volatile) c.in_ok-all.all c.in_ok-settle.field-0 (c.kept.ensures.reads.same clean (c.in_ok-all.ensures.learnt clean)) (c.in_ok-all.ensures.all clean) fits c.len-tickets.ensures.ordered c.in_ok-settle.ensures
