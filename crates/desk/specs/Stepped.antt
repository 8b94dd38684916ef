-- What a step of a statement makes of a transaction, as the protocol has it.
use Rattle.std.specs.Prelude.{⊤, ℕ, nat_eq, Bool, true, false, List, Some}
use Rattle.std.specs.Cmp.Lexicographic.{pointwise}
use Rattle.store.specs.declared.name.Ticket.{Ticket}
use Rattle.store.specs.declared.name.Txn.{Txn}
use Rattle.protocol.specs.Desk as protocol
use Rattle.protocol.specs.Language.{put}
use Rattle.protocol.specs.Letters.{name_of}
use Rattle.desk.specs.declared.participant.Participant.{Participant}
use Rattle.desk.specs.declared.transaction.Stage.{Stage}
use Rattle.desk.specs.declared.transaction.Stage.TheVariants as stage
use Rattle.desk.specs.declared.transaction.Undecided.{Undecided}
use Rattle.desk.specs.Database.{Database, language}
use Rattle.desk.specs.Send.{AsksAtHome, UnsentAtHome, asks_go, writes_go}
use Rattle.desk.specs.Transaction.{undecided_of}

-- the operations that a stage still sends have the sites of their leaves
abbrev pub IsAtHome : Database → Stage → Type 0
IsAtHome db stage.Idle = ⊤
IsAtHome db (stage.Reading reading) = AsksAtHome db reading.asks.items
IsAtHome db (stage.Writing writing) = UnsentAtHome db writing.unsent.items
IsAtHome db stage.Voting = ⊤

-- a transaction to which a site has given a ticket
abbrev pub ticketed : (db : Database) → Undecided → List ℕ → Ticket → protocol.Undecided (language db)
ticketed db undecided site ticket =
    let old = undecided_of db undecided in
    record old { ticket = put (pointwise nat_eq) site (Some (name_of ticket)) old.ticket }

-- the participants after the operations that a stage still sends went out to these
abbrev pub goes_to : Txn → List Participant → Stage → List Participant
goes_to txn participants stage.Idle = participants
goes_to txn participants (stage.Reading reading) = (asks_go txn reading.asks.items participants).participants
goes_to txn participants (stage.Writing writing) = (writes_go txn writing.unsent.items participants).participants
goes_to txn participants stage.Voting = participants

-- whether rows are waited for
abbrev pub is_reading : Stage → Bool
is_reading stage.Idle = false
is_reading (stage.Reading reading) = true
is_reading (stage.Writing writing) = false
is_reading stage.Voting = false
