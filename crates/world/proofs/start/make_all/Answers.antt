-- Why `make_all` meets its contract.
use Rattle.store.specs.declared.name.Ticket.{Ticket}
use Rattle.store.specs.declared.prepared.Prepared.{Prepared}
use Rattle.world.proofs.NewStores.{applied_at_once, row_there}
use Rattle.world.proofs.SiteSteps.{on_ok}
use Rattle.world.proofs.start.make_all.Goals as goal

pub returns-in-Ok-clause-ok : goal.returns-in-Ok-clause-ok
returns-in-Ok-clause-ok g c = λ clean sound may.
    let S = g.S.SiteStore in
    let ticket : Ticket = record { life = 0; visit = 0 } in
    let row : Prepared = record { txn = record { life = 0; number = 0 }; changes = c.args.changes } in
    let old = S.kept c.args.store.now in
    let middle = S.kept c.keep_prepared.new.self in
    let clean_mid = c.apply.ensures.leaves.clean clean in
    let prepares = c.in-Ok.ensures.ok clean_mid sound (may ticket) in
    on_ok c.apply.result (λ applies. (ticket, applied_at_once ticket row old middle (S.kept c.apply.new.self) prepares applies)) (c.apply.ensures.ok clean (c.keep_prepared.ensures.leaves.sound clean_mid sound) row (row_there ticket row old middle prepares))
