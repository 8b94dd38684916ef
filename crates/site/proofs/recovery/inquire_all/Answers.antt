-- Why `inquire_all` meets its contract.
use Rattle.std.proofs.Common.{ℕ, List, [], ◌∷◌, reverse, ap, sym, ◌∙◌}
use Rattle.std.proofs.lemmas.List.{reverse-append}
use Rattle.std.proofs.lemmas.Map.Iter.{rest_more}
use Rattle.std.specs.Map.Iter.{deref_pair}
use Rattle.store.specs.declared.letter.Body.TheVariants.{Reply}
use Rattle.store.specs.declared.letter.Letter.{Letter}
use Rattle.store.specs.declared.reply.Reply.TheVariants as reply
use Rattle.site.specs.declared.tickets.TicketState.{TicketState}
use Rattle.site.specs.Inquiries.{with_inquiry}
use Rattle.site.proofs.OldestFirst.{inquired_more}
use Rattle.site.proofs.recovery.inquire_all.Goals as goal

pub loop-ticket-preserved-in_ok-push : goal.loop-ticket-preserved-in_ok-push
loop-ticket-preserved-in_ok-push c =
    let step = rest_more deref_pair c.loop-ticket.ticket-iterator c.next.new.self c.next.result (c.in-Some.ticket, c.in-Some.standing) c.in-Some.is c.next.ensures.steps in
    let so_far = reverse c.loop-ticket.letters.items in
    let letter : List ℕ → Letter = λ site. record { site = site; txn = c.in-Prepared.txn; body = Reply (reply.Inquire c.in-Some.ticket.now.0) } in
    inquired_more c.args.site.now c.loop-ticket.ticket-iterator c.next.new.self c.in-Some.ticket.now c.in-Some.standing.now so_far (reverse c.push.new.self.items) _ step c.loop-ticket.invariant
    (ap reverse c.in_ok-push.ensures.items ∙ reverse-append c.loop-ticket.letters.items (letter c.in_ok-copy.field-0 ∷ []) ∙ ap (λ s. letter s ∷ so_far) c.in_ok-copy.ensures
    ∙ sym (ap (λ (s : TicketState). with_inquiry c.args.site.now c.in-Some.ticket.now.0 s so_far) c.in-Prepared.is))

pub loop-ticket-preserved : goal.loop-ticket-preserved
loop-ticket-preserved c =
    let step = rest_more deref_pair c.loop-ticket.ticket-iterator c.next.new.self c.next.result (c.in-Some.ticket, c.in-Some.standing) c.in-Some.is c.next.ensures.steps in
    let so_far = reverse c.loop-ticket.letters.items in
    inquired_more c.args.site.now c.loop-ticket.ticket-iterator c.next.new.self c.in-Some.ticket.now c.in-Some.standing.now so_far so_far _ step c.loop-ticket.invariant
    (sym (ap (λ (s : TicketState). with_inquiry c.args.site.now c.in-Some.ticket.now.0 s so_far) c.in_default.is))
