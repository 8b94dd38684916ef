-- Why `resume_on` meets its contract.
use Rattle.std.proofs.Common.{◌≡◌, None}
use Rattle.desk.specs.Participants.{participant_in}
use Rattle.desk.proofs.Doing.{first_none, ticket_ok}
use Rattle.desk.proofs.Full.{ticket_long}
use Rattle.desk.proofs.receive.resume_on.Goals as goal

pub returns-in-Ticket-clause-does : goal.returns-in-Ticket-clause-does
returns-in-Ticket-clause-does c = λ db n of same next there are known.
    let u = c.args.undecided.now in
    let first = (participant_in c.args.site.now u.participants).ticket in
    let none : first ≡ None = first_none first c.args.reply.now _ c.in-Ticket.is c.requires in
    rw c.in-Ticket.is (ticket_ok db n c.args.txn u c.ticket_goes.new.undecided c.args.site.now _ none c.ticket_goes.result (λ choice. c.ticket_goes.ensures.step db choice there) (c.ticket_goes.ensures.within db n known))

pub returns-in-Ticket-clause-full : goal.returns-in-Ticket-clause-full
returns-in-Ticket-clause-full c = λ db n of same next there are known full.
    let u = c.args.undecided.now in
    let first = (participant_in c.args.site.now u.participants).ticket in
    let none : first ≡ None = first_none first c.args.reply.now _ c.in-Ticket.is c.requires in
    rw c.in-Ticket.is (ticket_long db n c.args.txn u c.args.site.now _ none there known (c.ticket_goes.ensures.sends.full full))

pub returns-in-Ticket-clause-goes : goal.returns-in-Ticket-clause-goes
returns-in-Ticket-clause-goes c = record { short = c.ticket_goes.ensures.sends.short; same = c.ticket_goes.ensures.sends.same }

pub returns-in-Rows : goal.returns-in-Rows
returns-in-Rows c = record {
  does = λ db n of same next there are known. rw c.in-Rows.is (c.rows_come.ensures.does db n of same next are known);
  goes = c.rows_come.ensures.goes;
  full = λ db n of same next there are known full. rw c.in-Rows.is (c.rows_come.ensures.full db n of same next are known full);
}
