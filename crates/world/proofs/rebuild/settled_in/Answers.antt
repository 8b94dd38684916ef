-- Why `settled_in` meets its contract.
use Rattle.world.proofs.SettledSites.{seat_stays}
use Rattle.world.proofs.rebuild.settled_in.Goals as goal

pub returns-in_err-all-clause-same : goal.returns-in_err-all-clause-same
returns-in_err-all-clause-same g c = λ clean sound. seat_stays g.S.SiteStore.kept c.args.site.now c.settled.new.self c.settled.ensures.memory (c.settled.ensures.reads.same clean sound)

pub returns-in_err-list-clause-same : goal.returns-in_err-list-clause-same
returns-in_err-list-clause-same g c = λ clean sound. seat_stays g.S.SiteStore.kept c.args.site.now c.settled.new.self c.settled.ensures.memory (c.settled.ensures.reads.same clean sound)

pub returns-clause-same : goal.returns-clause-same
returns-clause-same g c = λ clean sound. seat_stays g.S.SiteStore.kept c.args.site.now c.settled.new.self c.settled.ensures.memory (c.settled.ensures.reads.same clean sound)
