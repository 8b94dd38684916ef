-- What clients ask for, and what is refused.
use Rattle.std.specs.Prelude.{◌≡◌, ◌⊎◌, ℕ, true, List, [], ◌∷◌, Option, Some, None}
use Rattle.std.specs.Option.{option_map}
use Rattle.meaning.specs.declared.statement.Statement.{Statement}
use Rattle.reader.specs.Printable.{AreDistinct}
use Rattle.store.specs.declared.name.Txn.{Txn}
use Rattle.protocol.specs.Desk as protocol
use Rattle.protocol.specs.Letters.{txn_name}
use Rattle.desk.specs.declared.refusal.Refusal as refusals
use Rattle.desk.specs.declared.refusal.Refusal.TheVariants.{NoTransaction, Busy, Ended}
use Rattle.desk.specs.declared.reply.Notice.{Notice}
use Rattle.desk.specs.declared.reply.Reply.{Reply}
use Rattle.desk.specs.declared.transaction.TxnState.{TxnState}
use Rattle.desk.specs.declared.transaction.TxnState.TheVariants as standing
use Rattle.desk.specs.declared.transaction.Undecided.{Undecided}
use Rattle.desk.specs.Database.{Database, language}
use Rattle.desk.specs.Acknowledge.{AreInOrder}
use Rattle.desk.specs.State.{VolatileState, desk_of}
use Rattle.desk.specs.Transition.{AreParticipants, is_moving}

-- the database has these sites, each once
pub record IsOver (db : Database) (those : List (List ℕ)) : Type 0 where
  pub sites : db.sites ≡ those
  pub distinct : AreDistinct db.sites

-- an undecided transaction has to do with the sites of the database, and the voters of a decided one stand in their order
abbrev pub IsAt : Database → Option TxnState → Type 0
IsAt db None = Unit
IsAt db (Some (standing.Undecided undecided)) = AreParticipants db undecided.participants
IsAt db (Some (standing.Committed committed)) = AreInOrder db.sites committed.voters

-- a refusal as clients hear it
abbrev pub refused_as : protocol.Refusal → refusals.Refusal
refused_as protocol.No_transaction = NoTransaction
refused_as protocol.Busy = Busy
refused_as protocol.Ended = Ended

-- what stands behind a transaction, as the protocol sees it
abbrev pub txn_in : (db : Database) → VolatileState → Txn → protocol.Txn (language db)
txn_in db table txn = (desk_of db table).txn (txn_name txn)

-- why a transaction states no statement: the protocol refuses one, or it gives a relation another split, and has stated all that it does
abbrev pub WhyNotStated : Database → VolatileState → Txn → Statement → refusals.Refusal → Type 0
WhyNotStated db table txn statement told =
    (option_map refused_as (protocol.refusal {L = language db} (protocol.State (table.version, statement)) (txn_in db table txn)) ≡ Some told) ⊎ ((is_moving (table.standing txn) ≡ true) × (told ≡ Busy))

-- a reply to a transaction's client, if there is one
abbrev pub notices : Txn → Option Reply → List Notice
notices txn None = []
notices txn (Some reply) = record { txn = txn; reply = reply } ∷ []

-- the undecided transaction that stands there
abbrev pub open_in : Option TxnState → Option Undecided
open_in None = None
open_in (Some (standing.Undecided undecided)) = Some undecided
open_in (Some (standing.Committed committed)) = None
