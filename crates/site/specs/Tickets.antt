-- What an operation makes of what stands behind a ticket.
use Rattle.std.specs.Prelude.{ℕ}
use Rattle.std.specs.FinMap as map
use Rattle.terms.specs.declared.write.Write.{Write}
use Rattle.store.specs.Slot.{slot_of}
use Rattle.store.specs.Content.{Changes}
use Rattle.site.specs.declared.tickets.TicketState.{TicketState}
use Rattle.site.specs.declared.tickets.TicketState.TheVariants.{Active, Prepared}
use Rattle.protocol.specs.Letters.{leaf_of, at_key}

-- one intention more, the last
abbrev pub with_change : Write → Changes → Changes
with_change write changes = map.insert changes (slot_of (leaf_of write) (at_key write).0) (at_key write).1

-- a visit that has done an operation
abbrev pub with_done : ℕ → TicketState → TicketState
with_done op (Active visit) = Active (record visit { done = op })
with_done op (Prepared txn) = Prepared txn

-- a visit that intends a write more
abbrev pub intends : Write → TicketState → TicketState
intends write (Active visit) = Active (record visit { changes = with_change write visit.changes })
intends write (Prepared txn) = Prepared txn

-- a visit with these intentions
abbrev pub with_changes : Changes → TicketState → TicketState
with_changes changes (Active visit) = Active (record visit { changes = changes })
with_changes changes (Prepared txn) = Prepared txn

-- what a visit intends; of anything else these
abbrev pub changes_in : Changes → TicketState → Changes
changes_in none (Active visit) = visit.changes
changes_in none (Prepared txn) = none
