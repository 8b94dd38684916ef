-- Why `Locks::release_shared` meets its contract.
use Rattle.std.proofs.Common.{List, sym, ◌∙◌, ap}
use Rattle.store.specs.declared.name.Ticket.{Ticket}
use Rattle.protocol.proofs.Basics.{if_true}
use Rattle.site.specs.declared.locks.Locks.{Locks}
use Rattle.site.specs.Locks.{reads}
use Rattle.site.proofs.Leaves.{removed}
use Rattle.site.proofs.locks.Locks.release_shared.Goals as goal

pub returns-then-remove : goal.returns-then-remove
returns-then-remove c =
    let l = c.args.self.now in
    let keys = c.remove.ensures.keys ∙ removed c.args.ticket.now l.readers.keys c.len-count.ensures.ordered in
    let to : List Ticket → Locks = λ k. record { leaf = l.leaf; readers = record { keys = k }; writer = l.writer; released = c.args.drawn } in
    ap to keys ∙ sym (if_true (reads c.args.ticket.now l) _ l (sym c.remove.ensures.test ∙ c.if-remove.true))
