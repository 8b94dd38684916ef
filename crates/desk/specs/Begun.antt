-- A transaction begins.
use Rattle.std.specs.Prelude.{ℕ, suc, Bool, List, map}
use Rattle.store.specs.declared.name.Txn.{Txn}
use Rattle.desk.specs.declared.participant.Participant.{Participant}
use Rattle.desk.specs.declared.transaction.TxnState.{TxnState}
use Rattle.desk.specs.declared.transaction.TxnState.TheVariants.{Undecided}
use Rattle.desk.specs.declared.transaction.Stage.TheVariants.{Idle}
use Rattle.desk.specs.State.{VolatileState}
use Rattle.desk.specs.Participants.{nowhere}

-- the next transaction of this life
abbrev pub next_of : VolatileState → Txn
next_of table = record { life = table.life; number = suc table.number }

-- what stands behind a transaction that begins; moves: whether it is to give a relation another split
abbrev pub first_of : Bool → List Participant → TxnState
first_of moves participants = Undecided (record { participants = participants; stage = Idle; moves = moves })

-- no site is visited
abbrev pub nowhere_yet : List (List ℕ) → List Participant
nowhere_yet sites = map nowhere sites
