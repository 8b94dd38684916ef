-- What transactions still send is of leaves at their sites.
use Rattle.std.proofs.Common.{◌≡◌, refl, List, [], ◌∷◌, ◌++◌, map, Option, Some, None}
use Rattle.store.specs.declared.letter.Letter as letters
use Rattle.store.specs.DeskContent.{DeskContent}
use Rattle.protocol.specs.Home.{StageHomed, TxnHomed}
use Rattle.protocol.specs.Language.{Name}
use Rattle.desk.specs.declared.fetches.Ask.{Ask}
use Rattle.desk.specs.declared.participant.Participant.{Participant}
use Rattle.desk.specs.declared.transaction.Stage as stages
use Rattle.desk.specs.declared.transaction.Stage.TheVariants as stage
use Rattle.desk.specs.declared.transaction.TxnState.{TxnState}
use Rattle.desk.specs.declared.transaction.TxnState.TheVariants as standing
use Rattle.desk.specs.declared.transaction.Unsent.{Unsent}
use Rattle.desk.specs.Database.{Database, IsPlace, language}
use Rattle.desk.specs.Send.{AsksAtHome, UnsentAtHome}
use Rattle.desk.specs.State.{Fits, VolatileState, desk_of, txn_at}
use Rattle.desk.specs.Stepped.{IsAtHome}
use Rattle.desk.specs.Transaction.{ask_of, stage_of, txn_of, write_of}
use Rattle.protocol.proofs.Basics.{Every}
use Rattle.world.specs.Machines.{AreOfPlaces}

module _ (db : Database) where
  asks_placed : (asks : List Ask) → AsksAtHome db asks → Every (λ ask. IsPlace db ask.leaf) (map (ask_of db) asks)
  asks_placed [] home = tt
  asks_placed (ask ∷ asks) home = (home.0, asks_placed asks home.1)

  unsent_placed : (writes : List Unsent) → UnsentAtHome db writes → Every (λ write. IsPlace db write.0) (map write_of writes)
  unsent_placed [] home = tt
  unsent_placed (unsent ∷ writes) home = (home.0, unsent_placed writes home.1)

  stage_placed : (participants : List Participant) (s : stages.Stage) → IsAtHome db s → StageHomed (language db) (IsPlace db) (stage_of db participants s)
  stage_placed participants stage.Idle home = tt
  stage_placed participants (stage.Reading reading) home = asks_placed reading.asks.items home
  stage_placed participants (stage.Writing writing) home = unsent_placed writing.unsent.items home
  stage_placed participants stage.Voting home = tt

  -- so it is behind each transaction of a coordinator
  pub stands_placed : (kept : DeskContent) (table : VolatileState) → Fits db kept table → (t : Name) → TxnHomed (language db) (IsPlace db) ((desk_of db table).txn t)
  stands_placed kept table fits t = go (table.standing (txn_at t)) refl
    where
      go : (o : Option TxnState) → table.standing (txn_at t) ≡ o → TxnHomed (language db) (IsPlace db) (txn_of db o)
      go None is = tt
      go (Some (standing.Undecided undecided)) is = stage_placed undecided.participants undecided.stage (fits.sites (txn_at t) (standing.Undecided undecided) is).1
      go (Some (standing.Committed committed)) is = tt

  -- letters behind others
  pub placed_both : (one other : List letters.Letter) → AreOfPlaces db one → AreOfPlaces db other → AreOfPlaces db (one ++ other)
  placed_both [] other first second = second
  placed_both (l ∷ one) other first second = (first.0, placed_both one other first.1 second)
