-- What transactions that a client hands over come to: the serial law holds of them, and unless something is refused each ends as it was asked for.
use Rattle.std.specs.Prelude.{◌≡◌, Bool, true, false, List, [], ◌∷◌, ◌++◌, length, None}
use Rattle.meaning.specs.Whole.{Relations}
use Rattle.store.specs.Content.{Content}
use Rattle.protocol.specs.Desk.{Deed, desk_began, is_desk_within}
use Rattle.protocol.specs.Catalogues.{IsSerialList}
use Rattle.protocol.specs.Local.{local}
use Rattle.desk.specs.declared.refusal.Refusal.TheVariants.{Full}
use Rattle.desk.specs.Database.{Database, language, statements}
use Rattle.desk.specs.Place.{Place}
use Rattle.desk.specs.State.{desk_of}
use Rattle.world.specs.declared.event.Entry.{Entry}
use Rattle.world.specs.declared.transaction.End as ends
use Rattle.world.specs.declared.transaction.End.TheVariants as end
use Rattle.world.specs.declared.transaction.Outcome as outcomes
use Rattle.world.specs.declared.transaction.Outcome.TheVariants.{Unbegun}
use Rattle.world.specs.declared.transaction.Transaction.{Transaction}
use Rattle.world.specs.Batch.{RunsAll, RunsOne, is_committed}
use Rattle.world.specs.Course.{Made, Move, SomeHindered, deeds_in, said_in}
use Rattle.world.specs.Machines.{Machines, world_of}
use Rattle.world.specs.Executed.{Stands}
use Rattle.world.specs.Runs.{IsSerialRun}
use Rattle.world.specs.Client.{IsServed}
use Rattle.world.specs.Replies.{Tells}

-- whether a transaction is to be committed
abbrev pub is_to_commit : ends.End → Bool
is_to_commit end.Commit = true
is_to_commit end.Rollback = false

module _ (db : Database) (fits : Place → Content → Bool) where
  -- What a transaction comes to that begins where all is quiet: it is committed just where its client asked for that, unless it can't
  -- begin within the limits, or something was refused on the way of one of its moves.
  pub data Fares (transaction : Transaction) (outcome : outcomes.Outcome) (before after : Machines) (past : List (Deed (language db))) (moves : List Move) (made : Made db moves before after) : Type 0 where
    ends_as_asked : is_committed outcome ≡ is_to_commit transaction.end → Fares transaction outcome before after past moves made
    finds_no_place : outcome ≡ Unbegun Full → is_desk_within (desk_began (desk_of db before.table)) ≡ false → Fares transaction outcome before after past moves made
    was_hindered : SomeHindered db moves before after past made → Fares transaction outcome before after past moves made

  -- so each of some transactions: after each all is quiet again, whatever was refused on its way
  abbrev pub FareAll : List Transaction → List outcomes.Outcome → Machines → Machines → List (Deed (language db)) → Type 0
  FareAll [] [] before after past = after ≡ before
  FareAll [] (first ∷ others) before after past = ⊥
  FareAll (transaction ∷ rest) [] before after past = ⊥
  FareAll (transaction ∷ rest) (first ∷ others) before after past = (moves : List Move) × (middle : Machines) × (made : Made db moves before middle) × RunsOne transaction first moves × Fares transaction first before middle past moves made
      × Stands db fits None middle (past ++ deeds_in db moves before middle made) × FareAll rest others middle after (past ++ deeds_in db moves before middle made)

  -- Transactions were run, by these moves, and the serial law holds of just what was asked for and heard: the committed transactions, one after another
  -- over the whole relations, give the answers that were heard and what the settled fragments rebuild. And where all was quiet before
  -- them each ended as its client asked for, unless something was refused on its way, and all is quiet again. entries, past: what was
  -- asked for and heard, and what had happened, before them
  pub record HasRun (whole : Relations) (transactions : List Transaction) (outcomes : List outcomes.Outcome) (before after : Machines) (entries : List Entry) (past : List (Deed (language db))) : Type 0 where
    pub moves : List Move
    pub made : Made db moves before after
    pub runs : RunsAll transactions outcomes moves
    pub served : IsServed db whole after (past ++ deeds_in db moves before after made)
    pub tells : Tells db (entries ++ said_in moves) (past ++ deeds_in db moves before after made)
    pub serial : IsSerialRun db whole after (entries ++ said_in moves)
    pub fare : Stands db fits None before past → FareAll transactions outcomes before after past
    pub stands : Stands db fits None before past → Stands db fits None after (past ++ deeds_in db moves before after made)

  -- One of the transactions was stopped, after those before it were run. Whatever was done of it, the serial law holds of what has
  -- happened: the settled fragments rebuild what the committed transactions give.
  pub record WasStopped (whole : Relations) (transactions : List Transaction) (done : List outcomes.Outcome) (before after : Machines) (entries : List Entry) (past : List (Deed (language db))) : Type 0 where
    pub front : List Transaction
    pub at : Transaction
    pub back : List Transaction
    pub is : transactions ≡ front ++ at ∷ back
    pub place : length done ≡ length front
    pub middle : Machines
    pub ran : HasRun whole front done before middle entries past
    pub deeds : List (Deed (language db))
    pub served : IsServed db whole after ((past ++ deeds_in db ran.moves before middle ran.made) ++ deeds)
    pub serial : IsSerialList local (statements db) whole (world_of db after [] ((past ++ deeds_in db ran.moves before middle ran.made) ++ deeds))
