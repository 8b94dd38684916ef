-- Names of transactions and of visits: their order and text.
use Rattle.std.specs.Prelude.{ℕ, List, ◌∷◌, ◌++◌}
use Rattle.std.specs.Fmt.{decimal}
use Rattle.std.specs.Ordering.{nat_cmp, ordering_then}
use Rattle.std.specs.declared.cmp.Ordering.{Ordering}
use Rattle.store.specs.declared.name.Ticket.{Ticket}
use Rattle.store.specs.declared.name.Txn.{Txn}

-- the life, a dot (46) and the visit
abbrev pub ticket_text : Ticket → List ℕ
ticket_text ticket = decimal ticket.life ++ 46 ∷ decimal ticket.visit

-- earlier lives first, and in a life by visit
abbrev pub ticket_cmp : Ticket → Ticket → Ordering
ticket_cmp one other = ordering_then (nat_cmp one.life other.life) (nat_cmp one.visit other.visit)

-- earlier lives first, and in a life by number
abbrev pub txn_cmp : Txn → Txn → Ordering
txn_cmp one other = ordering_then (nat_cmp one.life other.life) (nat_cmp one.number other.number)
