-- Operations of leaves that have a home.
use Rattle.std.specs.Prelude.{List, ⊤}
use Rattle.std.specs.List.{AllByRecursion}
use Rattle.protocol.specs.Desk.{Choice, Commit_call, Give_up, Idle, Known, Reading, Request, Rollback, Row, Stage, State, Txn, Unknown, Voting, Writing}
use Rattle.protocol.specs.Language.{Lang}
use Rattle.protocol.specs.Letter.{Body, Fetch, Write, Letter}

-- P: whether a leaf has one
module _ (L : Lang) (P : L.Leaf → Type 0) where
  -- an operation is of such a leaf
  abbrev pub IsAtHome : Body L → Type 0
  IsAtHome (Fetch ticket op leaf query) = P leaf
  IsAtHome (Write ticket op leaf write) = P leaf
  IsAtHome body = ⊤

  -- so is that of a letter, and of each of these letters
  abbrev pub IsHomed : Letter L → Type 0
  IsHomed letter = IsAtHome letter.body

  abbrev pub AreHomed : List (Letter L) → Type 0
  AreHomed letters = AllByRecursion IsHomed letters

  -- what is written is of such leaves
  abbrev pub WritesHomed : List (L.Leaf × L.Write) → Type 0
  WritesHomed writes = AllByRecursion (λ write. P write.0) writes

  -- so is what is chosen where a statement is asked for
  abbrev pub AsksHomed : Request L → Choice L → Type 0
  AsksHomed (State s) choice = WritesHomed choice.1
  AsksHomed Commit_call choice = ⊤
  AsksHomed Rollback choice = ⊤
  AsksHomed Give_up choice = ⊤

  -- so is what a transaction fetches, or still writes
  abbrev pub StageHomed : Stage L → Type 0
  StageHomed Idle = ⊤
  StageHomed (Reading s asks) = AllByRecursion (λ ask. P ask.leaf) asks
  StageHomed (Writing answer writes) = WritesHomed writes
  StageHomed (Voting votes) = ⊤

  abbrev pub TxnHomed : Txn L → Type 0
  TxnHomed Unknown = ⊤
  TxnHomed (Known u) = StageHomed u.stage
  TxnHomed (Row voters acked) = ⊤
