-- Why `prepare` meets its contract.
use Rattle.std.proofs.Common.{refl, ap, ◌∙◌}
use Rattle.site.specs.Locks.{leaves_in}
use Rattle.site.proofs.LeavesKept.{leaves_stop_reading}
use Rattle.site.proofs.volatile.Volatile.prepare.Goals as goal

pub returns-clause-volatile : goal.returns-clause-volatile
returns-clause-volatile c = record { name = refl; leaves = ap leaves_in c.release_shared.ensures ∙ leaves_stop_reading c.args.ticket.now c.args.self.now.number c.args.self.now.locks.items }
