-- Why `open` meets its contract.
use Rattle.std.proofs.Common.{Option, Some, ap, ◌+◌, ◌^◌, ◌≤◌, arith}
use Rattle.store.specs.declared.name.Ticket.{Ticket}
use Rattle.store.specs.declared.reply.Reply.{Reply}
use Rattle.store.specs.declared.reply.Reply.TheVariants as replies
use Rattle.protocol.specs.Site.{Opens}
use Rattle.site.specs.State.{volatile_of}
use Rattle.site.proofs.Acts.{opens_steps, steps_at}
use Rattle.site.proofs.operations.open.Goals as goal

pub returns-clause-ok : goal.returns-clause-ok
returns-clause-ok c = λ kept fits.
    let p = c.args.volatile.now in
    let answer : Ticket → Option Reply = λ ticket. Some (replies.Ticket ticket) in
    steps_at kept kept (volatile_of p) (volatile_of c.open.new.self) _ Opens (answer c.in_ok-ticket.ticket) c.in_ok-ticket.ensures.ok
    (opens_steps kept p.standings p.locks.items p.active p.life p.number fits (let n : p.active + 1 ≤ 1024 = c.in_ok-ticket.ensures.room in omega (arith, n)) (let n : p.number + 2 ≤ 2 ^ 63 = c.in_ok-ticket.ensures.last in omega (arith, n)) (answer c.in_ok-ticket.ticket) (ap answer c.in_ok-ticket.ensures.ticket))
