-- Why `release_one` meets its contract.
use Rattle.std.proofs.Common.{rules}
use Rattle.site.specs.Locks.{stops}
use Rattle.site.proofs.LockPlaces.{code_changed, code_unchanged}
use Rattle.site.proofs.lock_table.release_one.Goals as goal

pub returns-then-place-len : goal.returns-then-place-len
returns-then-place-len c = code_changed (stops c.args.ticket.now c.args.drawn) c.args.locks.now.items c.args.place c.index_mut.result.now c.release.new.self (search rules) (search rules) c.release.ensures

pub returns-else-place-len : goal.returns-else-place-len
returns-else-place-len c = code_unchanged (stops c.args.ticket.now c.args.drawn) c.args.locks.now.items c.args.place (search rules)
