-- Why `LockTable::lock_if_touched` meets its contract.
use Rattle.std.proofs.Common.{sym, ap, ◌∙◌, slice_set}
use Rattle.store.specs.Content.{touches}
use Rattle.protocol.proofs.Basics.{if_false, some_is}
use Rattle.site.specs.Locks.{with_writer}
use Rattle.site.proofs.LockPlaces.{set_same}
use Rattle.site.proofs.lock_table.LockTable.lock_if_touched.Goals as goal

pub returns-else-touches-clause-ok : goal.returns-else-touches-clause-ok
returns-else-touches-clause-ok c = λ at there.
    let same = some_is (sym there ∙ c.at.ensures) in
    set_same c.args.self.now.items c.args.place at there
    ∙ ap (slice_set c.args.self.now.items c.args.place) (sym (if_false (touches at.leaf c.args.changes.now) (with_writer c.args.ticket at) at (ap (λ l. touches l.leaf c.args.changes.now) same ∙ sym c.touches.ensures ∙ c.if-touches.false)))
