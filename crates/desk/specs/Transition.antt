-- What a step makes of a transaction, as the protocol has it.
use Rattle.std.specs.Prelude.{◌≡◌, ℕ, Bool, true, false, ◌&&◌, List, [], ◌∷◌, map, Option, Some, None}
use Rattle.std.specs.List.{filter_map}
use Rattle.reader.specs.Printable.{AreDistinct}
use Rattle.store.specs.declared.name.Txn.{Txn}
use Rattle.protocol.specs.Desk as protocol
use Rattle.protocol.specs.Language.{Name}
use Rattle.protocol.specs.Letters.{txn_name}
use Rattle.desk.specs.declared.reply.Reply.{Reply}
use Rattle.desk.specs.declared.reply.Reply.TheVariants.{Begun, Answer, Committed, RolledBack, Aborted}
use Rattle.desk.specs.declared.reply.Why as whys
use Rattle.desk.specs.declared.reply.Why.TheVariants as why
use Rattle.desk.specs.declared.participant.Participant.{Participant}
use Rattle.desk.specs.declared.transaction.TxnState.{TxnState}
use Rattle.desk.specs.declared.transaction.TxnState.TheVariants as standing
use Rattle.desk.specs.declared.transition.After as afters
use Rattle.desk.specs.declared.transition.After.TheVariants.{Stays, Ends, Becomes}
use Rattle.desk.specs.declared.transition.Transition.{Transition}
use Rattle.desk.specs.declared.transaction.Stage.TheVariants as stage
use Rattle.desk.specs.declared.transaction.Undecided.{Undecided}
use Rattle.desk.specs.Database.{Database, language, sent}
use Rattle.desk.specs.Acknowledge.{AreInOrder}
use Rattle.desk.specs.Participants.{sites_of}
use Rattle.desk.specs.Transaction.{txn_of}

-- the participants of a transaction are the sites of the database, each once
pub record AreParticipants (db : Database) (participants : List Participant) : Type 0 where
  pub sites : sites_of participants ≡ db.sites
  pub distinct : AreDistinct (sites_of participants)

-- why a transaction aborted
abbrev pub why_of : protocol.Why → whys.Why
why_of protocol.By_vote = why.Vote
why_of protocol.By_refusal = why.Refused
why_of protocol.Given_up = why.GivenUp
why_of protocol.By_restart = why.Restart
why_of protocol.By_store = why.Store

-- what a client hears of a deed
abbrev pub told : (db : Database) → protocol.Deed (language db) → Option (Name × Reply)
told db (protocol.Began t) = Some (t, Begun)
told db (protocol.Answered t answer) = Some (t, Answer answer)
told db (protocol.Committed t) = Some (t, Committed)
told db (protocol.Aborted t reason) = Some (t, Aborted (why_of reason))
told db (protocol.Rolled_back t) = Some (t, RolledBack)
told db deed = None

-- a reply to a transaction's client, if there is one
abbrev pub told_to : Name → Option Reply → List (Name × Reply)
told_to t None = []
told_to t (Some reply) = (t, reply) ∷ []

-- what stands behind a transaction after a step
abbrev pub after_of : Option TxnState → afters.After → Option TxnState
after_of old Stays = old
after_of old Ends = None
after_of old (Becomes standing) = Some standing

-- what stands after a step that is no statement's: a transaction in its first phase at these sites, or a decided one whose voters stand in their order
abbrev pub InPhaseAt : List (List ℕ) → TxnState → Type 0
InPhaseAt sites (standing.Undecided undecided) = (sites_of undecided.participants ≡ sites) × (undecided.stage ≡ stage.Voting)
InPhaseAt sites (standing.Committed committed) = AreInOrder sites committed.voters

abbrev pub AtSites : List (List ℕ) → afters.After → Type 0
AtSites sites Stays = Unit
AtSites sites Ends = Unit
AtSites sites (Becomes standing) = InPhaseAt sites standing

-- the step is the protocol's
pub record IsTransition (db : Database) (txn : Txn) (old : Option TxnState) (turn : Transition) (wanted : protocol.Transition (language db)) : Type 0 where
  pub stands : txn_of db (after_of old turn.after) ≡ wanted.txn
  pub letters : map (sent db) turn.letters.items ≡ wanted.letters
  pub replies : told_to (txn_name txn) turn.reply ≡ filter_map (told db) wanted.deeds

-- a transaction in its first phase; moves: whether it gives a relation another split
abbrev pub voting : Bool → List Participant → Undecided
voting moves participants = record { participants = participants; stage = stage.Voting; moves = moves }

-- whether an undecided transaction that gives a relation another split stands there
abbrev pub is_moving : Option TxnState → Bool
is_moving None = false
is_moving (Some (standing.Undecided undecided)) = undecided.moves
is_moving (Some (standing.Committed committed)) = false

-- whether a client hears that its transaction is committed
abbrev pub says_committed : Option Reply → Bool
says_committed (Some Committed) = true
says_committed reply = false

-- whether a step brings the next catalogue into force: it commits a transaction that gives a relation another split
abbrev pub raises : Option TxnState → Option Reply → Bool
raises old reply = is_moving old && says_committed reply

-- it is committed, and nobody is to be told
abbrev pub commits_now : (db : Database) → Name → protocol.Transition (language db)
commits_now db t = record { txn = protocol.Unknown; letters = []; deeds = protocol.Committed t ∷ [] }
