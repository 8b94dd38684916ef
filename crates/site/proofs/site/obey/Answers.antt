-- Why `obey` meets its contract.
use Rattle.site.proofs.site.obey.Goals as goal

pub returns-in-Open-clause-ok : goal.returns-in-Open-clause-ok
returns-in-Open-clause-ok g c = λ clean sound fits. rw c.in-Open.is (c.open.ensures.ok (g.S.SiteStore.kept c.args.store.now) fits)
