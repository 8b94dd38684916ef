-- What stands behind transactions, as the protocol has it.
use Rattle.std.specs.Prelude.{ℕ, List, map, Option, Some, None}
use Rattle.std.specs.Option.{option_map}
use Rattle.store.specs.declared.commit.Voter.{Voter}
use Rattle.protocol.specs.Desk as protocol
use Rattle.protocol.specs.Language.{Name}
use Rattle.protocol.specs.Letters.{name_of, vote_of, leaf_of, at_key}
use Rattle.protocol.specs.Local.{AtKey}
use Rattle.desk.specs.declared.fetches.Ask.{Ask}
use Rattle.desk.specs.declared.transaction.Stage.{Stage}
use Rattle.desk.specs.declared.transaction.Stage.TheVariants as stage
use Rattle.desk.specs.declared.transaction.Undecided.{Undecided}
use Rattle.desk.specs.declared.transaction.Unsent.{Unsent}
use Rattle.desk.specs.declared.participant.Participant.{Participant}
use Rattle.desk.specs.declared.transaction.TxnState.{TxnState}
use Rattle.desk.specs.declared.transaction.TxnState.TheVariants as standing
use Rattle.desk.specs.Database.{Database, language}
use Rattle.desk.specs.Participants.{participant_in}
use Rattle.desk.specs.Place.{Place}

-- a fetch, of a leaf at its site
abbrev pub ask_of : (db : Database) → Ask → protocol.Ask (language db)
ask_of db ask = record { leaf = (ask.site, ask.leaf); query = ask.conds; number = ask.number; rows = ask.rows }

-- a write that waits, of a leaf at its site
abbrev pub write_of : Unsent → Place × AtKey
write_of unsent = ((unsent.site, leaf_of unsent.write), at_key unsent.write)

-- the votes that were counted
abbrev pub votes_of : List Participant → List ℕ → Option Rattle.protocol.specs.Letter.Vote
votes_of participants site = option_map vote_of (participant_in site participants).vote

-- where a transaction stands
abbrev pub stage_of : (db : Database) → List Participant → Stage → protocol.Stage (language db)
stage_of db participants stage.Idle = protocol.Idle
stage_of db participants (stage.Reading reading) = protocol.Reading (reading.version, reading.statement) (map (ask_of db) reading.asks.items)
stage_of db participants (stage.Writing writing) = protocol.Writing writing.answer (map write_of writing.unsent.items)
stage_of db participants stage.Voting = protocol.Voting (votes_of participants)

-- an undecided transaction
abbrev pub undecided_of : (db : Database) → Undecided → protocol.Undecided (language db)
undecided_of db undecided = record {
  visited = λ site. (participant_in site undecided.participants).visited;
  ticket = λ site. option_map name_of (participant_in site undecided.participants).ticket;
  sent = λ site. (participant_in site undecided.participants).sent;
  stage = stage_of db undecided.participants undecided.stage;
  moves = undecided.moves;
}

-- a voter
abbrev pub voter_of : Voter → List ℕ × Name
voter_of voter = (voter.site, name_of voter.ticket)

-- what stands behind a transaction
abbrev pub txn_of : (db : Database) → Option TxnState → protocol.Txn (language db)
txn_of db None = protocol.Unknown
txn_of db (Some (standing.Undecided undecided)) = protocol.Known (undecided_of db undecided)
txn_of db (Some (standing.Committed committed)) = protocol.Row (map voter_of committed.voters) (map voter_of committed.acked)
