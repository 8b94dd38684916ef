-- What becomes of a site's memory: a ticket is drawn, a visit does an operation, is prepared, or ends.
use Rattle.std.specs.Prelude.{ℕ, ◌-◌, suc, not, [], ◌∷◌, ◌++◌, Option, Some, None, if◌then◌else◌}
use Rattle.std.specs.FinMap as map
use Rattle.std.specs.List.{filter}
use Rattle.std.specs.Ordering.{is_eq}
use Rattle.terms.specs.declared.leaf.Leaf.{Leaf}
use Rattle.terms.specs.Leaf.{leaf_cmp}
use Rattle.store.specs.declared.name.Ticket.{Ticket}
use Rattle.store.specs.declared.name.Txn.{Txn}
use Rattle.store.specs.Content.{Changes}
use Rattle.store.specs.SiteContent.{is_ticket}
use Rattle.site.specs.declared.locks.Locks.{Locks}
use Rattle.site.specs.declared.tickets.TicketState as standings
use Rattle.site.specs.declared.tickets.TicketState.TheVariants as standing
use Rattle.site.specs.Locks.{with_reader, with_writer, stops, stops_reading}
use Rattle.site.specs.State.{VolatileState}

-- the ticket that is drawn next
abbrev pub next_of : VolatileState → Ticket
next_of table = record { life = table.life; visit = suc table.number }

-- something else stands behind a ticket
abbrev pub stood : Ticket → Option standings.TicketState → (Ticket → Option standings.TicketState) → Ticket → Option standings.TicketState
stood ticket new standing other = if is_ticket ticket other then new else standing other

-- the locks on one leaf are others
abbrev pub locked : Leaf → (Locks → Locks) → (Leaf → Locks) → Leaf → Locks
locked leaf step locks other = if is_eq (leaf_cmp other leaf) then step (locks other) else locks other

-- a visit begins
abbrev pub opened : VolatileState → VolatileState
opened table = record table {
  standing = stood (next_of table) (Some (standing.Active (record { done = 0; changes = map.empty }))) table.standing;
  tickets = table.tickets ++ next_of table ∷ [];
  active = suc table.active;
  number = suc table.number;
}

-- a visit has done an operation that reads
abbrev pub read : Ticket → ℕ → Changes → Leaf → VolatileState → VolatileState
read ticket op changes leaf table = record table {
  standing = stood ticket (Some (standing.Active (record { done = op; changes = changes }))) table.standing;
  locks = locked leaf (with_reader ticket) table.locks;
}

-- one that writes
abbrev pub wrote : Ticket → ℕ → Changes → Leaf → VolatileState → VolatileState
wrote ticket op changes leaf table = record table {
  standing = stood ticket (Some (standing.Active (record { done = op; changes = changes }))) table.standing;
  locks = locked leaf (with_writer ticket) table.locks;
}

-- a visit is prepared
abbrev pub prepared : Ticket → Txn → VolatileState → VolatileState
prepared ticket txn table = record table {
  standing = stood ticket (Some (standing.Prepared txn)) table.standing;
  locks = λ leaf. stops_reading ticket table.number (table.locks leaf);
  active = table.active - 1;
}

-- nothing stands behind a ticket any more
abbrev pub gone : Ticket → ℕ → VolatileState → VolatileState
gone ticket active table = record table {
  standing = stood ticket None table.standing;
  tickets = filter (λ other. not (is_ticket ticket other)) table.tickets;
  locks = λ leaf. stops ticket table.number (table.locks leaf);
  active = active;
}
