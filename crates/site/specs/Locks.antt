-- The locks on one leaf, and what granting one and letting go make of them.
use Rattle.std.specs.Prelude.{ℕ, Bool, false, ◌||◌, not, nat_le, List, [], ◌∷◌, map, Option, Some, None, if◌then◌else◌}
use Rattle.std.specs.BTreeSet.{contains, insert_key}
use Rattle.std.specs.List.{filter, list_any, position_from}
use Rattle.std.specs.Ordering.{is_eq}
use Rattle.terms.specs.declared.leaf.Leaf.{Leaf}
use Rattle.terms.specs.Leaf.{leaf_cmp}
use Rattle.store.specs.declared.name.Ticket.{Ticket}
use Rattle.store.specs.Name.{ticket_cmp}
use Rattle.store.specs.SiteContent.{is_ticket}
use Rattle.site.specs.declared.locks.Locks.{Locks}

-- no locks, and none was ever let go
abbrev pub free : Leaf → Locks
free leaf = record { leaf = leaf; readers = record { keys = [] }; writer = None; released = 0 }

-- the leaves of locks
abbrev pub leaves_in : List Locks → List Leaf
leaves_in locks = map (λ l. l.leaf) locks

-- whether a ticket has the shared lock
abbrev pub reads : Ticket → Locks → Bool
reads ticket locks = contains ticket_cmp locks.readers ticket

-- whether the exclusive lock, if somebody has it, is a ticket's
abbrev pub is_writer : Ticket → Option Ticket → Bool
is_writer ticket None = false
is_writer ticket (Some writer) = is_ticket ticket writer

-- whether a ticket has the exclusive lock
abbrev pub writes : Ticket → Locks → Bool
writes ticket locks = is_writer ticket locks.writer

-- whether the exclusive lock, if somebody has it, is another's
abbrev pub is_other : Ticket → Option Ticket → Bool
is_other ticket None = false
is_other ticket (Some writer) = not (is_ticket ticket writer)

-- whether a ticket but this one has the exclusive lock
abbrev pub others_write : Ticket → Locks → Bool
others_write ticket locks = is_other ticket locks.writer

-- whether a ticket but this one has a lock of either kind
abbrev pub others_have : Ticket → Locks → Bool
others_have ticket locks = others_write ticket locks || list_any (λ reader. not (is_ticket ticket reader)) locks.readers.keys

-- whether another has a lock, or had let one go when tickets up to this one or later were drawn
abbrev pub is_foreign : Ticket → Locks → Bool
is_foreign ticket locks = nat_le ticket.visit locks.released || others_have ticket locks

-- the ticket has the shared lock too
abbrev pub with_reader : Ticket → Locks → Locks
with_reader ticket locks = record locks { readers = record { keys = insert_key ticket_cmp locks.readers.keys ticket } }

-- the ticket has the exclusive lock
abbrev pub with_writer : Ticket → Locks → Locks
with_writer ticket locks = record locks { writer = Some ticket }

-- a shared lock is let go, after so many tickets were drawn
abbrev pub stops_reading : Ticket → ℕ → Locks → Locks
stops_reading ticket drawn locks = if reads ticket locks then record locks { readers = record { keys = filter (λ reader. not (is_ticket ticket reader)) locks.readers.keys }; released = drawn } else locks

-- an exclusive lock is let go, after so many tickets were drawn
abbrev pub stops_writing : Ticket → ℕ → Locks → Locks
stops_writing ticket drawn locks = if writes ticket locks then record locks { writer = None; released = drawn } else locks

-- both are
abbrev pub stops : Ticket → ℕ → Locks → Locks
stops ticket drawn locks = stops_writing ticket drawn (stops_reading ticket drawn locks)

-- the place of a leaf in a list of locks
abbrev pub place_in : Leaf → List Locks → Option ℕ
place_in leaf locks = position_from (λ other. is_eq (leaf_cmp leaf other.leaf)) 0 locks

-- the locks on a leaf; on one that isn't in the list there are none
abbrev pub locks_in : Leaf → List Locks → Locks
locks_in leaf [] = free leaf
locks_in leaf (locks ∷ rest) = if is_eq (leaf_cmp leaf locks.leaf) then locks else locks_in leaf rest
