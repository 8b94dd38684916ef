-- The map that has the youngest ticket first, which a reader may skip.
use Rattle.std.specs.Prelude.{List, [], ◌∷◌, ◌++◌}
use Rattle.std.specs.declared.cmp.Reverse.{Reverse}
use Rattle.store.specs.declared.name.Ticket.{Ticket}
use Rattle.site.specs.declared.tickets.TicketState.{TicketState}

-- its entries from the oldest to the youngest
abbrev pub from_oldest : List (Reverse Ticket × TicketState) → List (Ticket × TicketState)
from_oldest [] = []
from_oldest (entry ∷ entries) = from_oldest entries ++ (entry.0.0, entry.1) ∷ []
