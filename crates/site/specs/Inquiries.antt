-- The inquiries of a site about its prepared rows.
use Rattle.std.specs.Prelude.{ℕ, List, [], ◌∷◌}
use Rattle.store.specs.declared.letter.Body.TheVariants.{Reply}
use Rattle.store.specs.declared.letter.Letter.{Letter}
use Rattle.store.specs.declared.name.Ticket.{Ticket}
use Rattle.store.specs.declared.reply.Reply.TheVariants as reply
use Rattle.site.specs.declared.tickets.TicketState as standings
use Rattle.site.specs.declared.tickets.TicketState.TheVariants as standing

-- an inquiry before these, where a row is prepared
abbrev pub with_inquiry : List ℕ → Ticket → standings.TicketState → List Letter → List Letter
with_inquiry site ticket (standing.Active visit) letters = letters
with_inquiry site ticket (standing.Prepared txn) letters = record { site = site; txn = txn; body = Reply (reply.Inquire ticket) } ∷ letters

-- the inquiries about all that stands
abbrev pub inquiries_of : List ℕ → List (Ticket × standings.TicketState) → List Letter
inquiries_of site [] = []
inquiries_of site (entry ∷ entries) = with_inquiry site entry.0 entry.1 (inquiries_of site entries)
