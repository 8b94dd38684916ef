-- What becomes of an operation of a visit.
use Rattle.std.specs.Prelude.{ℕ, suc, nat_eq, ◌==◌, Option, Some, None, if◌then◌else◌}
use Rattle.std.specs.FinMap as map
use Rattle.terms.specs.declared.leaf.Leaf.{Leaf}
use Rattle.store.specs.declared.name.Ticket.{Ticket}
use Rattle.store.specs.declared.reply.Reason.TheVariants.{Lock, Full}
use Rattle.store.specs.declared.reply.Vote.TheVariants.{Yes, No, Read}
use Rattle.site.specs.declared.locks.Locks.{Locks}
use Rattle.site.specs.declared.verdict.Ballot.{Ballot}
use Rattle.site.specs.declared.verdict.Ballot.TheVariants.{Stands, Ends, Keeps}
use Rattle.site.specs.declared.tickets.TicketState.{TicketState}
use Rattle.site.specs.declared.tickets.TicketState.TheVariants.{Active, Prepared}
use Rattle.site.specs.declared.verdict.Verdict.{Verdict}
use Rattle.site.specs.declared.verdict.Verdict.TheVariants.{Pass, Gone, Refuse, Go}
use Rattle.protocol.specs.Local.{AtKey, is_full}
use Rattle.site.specs.Locks.{others_write, is_foreign}

-- one that reads the leaf of these locks
abbrev pub read_verdict : Ticket → ℕ → Locks → Option TicketState → Verdict
read_verdict ticket op locks None = Gone
read_verdict ticket op locks (Some (Prepared txn)) = Pass
read_verdict ticket op locks (Some (Active visit)) = if op == suc visit.done then (if others_write ticket locks then Refuse Lock else Go) else Pass

-- one that writes it
abbrev pub write_verdict : Ticket → ℕ → Leaf → AtKey → Locks → Option TicketState → Verdict
write_verdict ticket op leaf at locks None = Pass
write_verdict ticket op leaf at locks (Some (Prepared txn)) = Pass
write_verdict ticket op leaf at locks (Some (Active visit)) =
    if op == suc visit.done then (if is_foreign ticket locks then Refuse Lock else (if is_full leaf at visit.changes then Refuse Full else Go)) else Pass

-- what becomes of a prepare that counts so many operations
abbrev pub ballot : ℕ → Option TicketState → Ballot
ballot count None = Stands No
ballot count (Some (Prepared txn)) = Stands Yes
ballot count (Some (Active visit)) = if visit.done == count then (if nat_eq (map.len visit.changes) 0 then Ends Read else Keeps) else Ends No
