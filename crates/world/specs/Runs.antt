-- The machines and the entries of a world are those of a run of the protocol.
use Rattle.std.specs.List.{AllZip}
use Rattle.std.specs.Prelude.{◌≡◌, ◌⊎◌, ⊤, ℕ, Bool, true, false, List, ◌++◌, ◌∷◌, [], map}
use Rattle.meaning.specs.declared.answer.Answer.{Answer}
use Rattle.meaning.specs.declared.statement.Statement.{Statement}
use Rattle.reader.specs.declared.command.Command.TheVariants as command
use Rattle.reader.specs.Command.{IsTextOf}
use Rattle.store.specs.declared.name.Txn.{Txn}
use Rattle.meaning.specs.Whole.{Relations}
use Rattle.protocol.specs.Accepted.{Holds, IsAccepted}
use Rattle.protocol.specs.Desk.{Choice, Deed}
use Rattle.protocol.specs.Catalogues.{serial_answers_then, serial_then}
use Rattle.protocol.specs.Home.{AreHomed}
use Rattle.protocol.specs.Local.{local}
use Rattle.protocol.specs.Serial.{AllExplained, IsOpening, settled}
use Rattle.protocol.specs.World as world
use Rattle.protocol.specs.World.{Event, World, happens, run}
use Rattle.desk.specs.declared.reply.Out.{Out}
use Rattle.desk.specs.Database.{Database, IsPlace, language, sent, statements}
use Rattle.desk.specs.Database.{statements as statements_of}
use Rattle.desk.specs.Place.{Place}
use Rattle.world.specs.declared.event.Entry.{Entry}
use Rattle.world.specs.declared.event.Event as events
use Rattle.world.specs.declared.event.Event.TheVariants as event
use Rattle.world.specs.Events.{IsEvent}
use Rattle.world.specs.Listed.{FitsList}
use Rattle.world.specs.Machines.{Machines, world_of}
use Rattle.world.specs.Posted.{letters_in}
use Rattle.world.specs.Replies.{Tells, answers_to, committed_in, texts_of}

-- events are those of entries, each for the catalogue in force in the world in which it comes
abbrev pub AreEvents : (db : Database) → World (language db) → List Entry → List (Event (language db)) → Type 0
AreEvents db w [] [] = ⊤
AreEvents db w [] (e ∷ events) = ⊥
AreEvents db w (entry ∷ entries) [] = ⊥
AreEvents db w (entry ∷ entries) (e ∷ events) = IsEvent db w.version entry.event entry.out.kept e × AreEvents db (happens w e) entries events

-- From an opening over whole relations, under the catalogue of this version, the events of the entries lead to the world of these machines, of the letters that the entries put out, and of deeds that they tell, whichever catalogues came into
-- force; each operation that was ever sent is of a leaf at its site.
pub record IsRun (db : Database) (whole : Relations) (machines : Machines) (entries : List Entry) (past : List (Deed (language db))) : Type 0 where
  pub version : ℕ
  pub opening : World (language db)
  pub opens : IsOpening (version, whole) opening
  pub events : List (Event (language db))
  pub are : AreEvents db opening entries events
  pub is : run events opening ≡ world_of db machines (map (sent db) (letters_in entries)) past
  pub placed : AreHomed (language db) (IsPlace db) (map (sent db) (letters_in entries))
  pub explained : AllExplained past
  pub tells : Tells db entries past
  pub fit : FitsList db machines

-- the run goes on to these entries, by further deeds
pub record RunsOn (db : Database) (whole : Relations) (machines : Machines) (entries : List Entry) (past : List (Deed (language db))) : Type 0 where
  pub deeds : List (Deed (language db))
  pub run_on : IsRun db whole machines entries (past ++ deeds)

-- one event more: it is accepted in the old world, its step leads from there to the new one, and the run goes on by just this event
pub record StepsOn (db : Database) (whole : Relations) (before after : Machines) (entries more : List Entry) (past : List (Deed (language db))) : Type 0 where
  pub entry : Entry
  pub added : more ≡ entries ++ entry ∷ []
  pub step : Event (language db)
  pub is_event : IsEvent db before.table.version entry.event entry.out.kept step
  pub accepted : IsAccepted (world_of db before (map (sent db) (letters_in entries)) past) step
  pub deeds : List (Deed (language db))
  pub is : happens (world_of db before (map (sent db) (letters_in entries)) past) step ≡ world_of db after (map (sent db) (letters_in more)) (past ++ deeds)
  pub run_on : IsRun db whole after more (past ++ deeds)

-- the caller's flag of a delivery is honoured: its step is that of a store call that is kept, unless the flag said that it isn't, or the medium of a store has refused meanwhile
pub record IsSpared (Refused : Type 0) (db : Database) (before after : Machines) (entries more : List Entry) (past : List (Deed (language db))) (number : ℕ) (whether : Bool) : Type 0 where
  pub kept : Bool
  pub choice : Choice (language db)
  pub deeds : List (Deed (language db))
  pub is : happens (world_of db before (map (sent db) (letters_in entries)) past) (world.Deliver number kept choice) ≡ world_of db after (map (sent db) (letters_in more)) (past ++ deeds)
  pub spared : (kept ≡ true) ⊎ ((whether ≡ false) ⊎ Refused)

-- so of any event; a restart is refused where its flag says that it isn't kept
abbrev pub Spares : Type 0 → (db : Database) → Machines → Machines → List Entry → List Entry → List (Deed (language db)) → events.Event → Type 0
Spares Refused db before after entries more past (event.Deliver number whether) = IsSpared Refused db before after entries more past number whether
Spares Refused db before after entries more past other = ⊤

-- the run goes on by one event more, and the invariant holds in the world that it leads to
abbrev pub GoesOn : (db : Database) → Relations → Machines → Machines → List Entry → List Entry → List (Deed (language db)) → Type 0
GoesOn db whole before after entries more past = (on : StepsOn db whole before after entries more past) × Holds (on.run_on.version, whole) (world_of db after (map (sent db) (letters_in more)) (past ++ on.deeds))

-- the law of it, of the machines at hand
abbrev pub RunsHold : Database → Type 0
RunsHold db = (whole : Relations) (machines : Machines) (entries : List Entry) (past : List (Deed (language db))) → (runs : IsRun db whole machines entries past) → Holds (runs.version, whole) (world_of db machines (map (sent db) (letters_in entries)) past)

-- an event that has happened
abbrev pub entry_of : events.Event → Out → Entry
entry_of what out = record { event = what; out = out }

-- texts are those of statements, one by one
abbrev pub AreTexts : Database → List (List ℕ) → List Statement → Type 0
AreTexts db texts statements = AllZip (λ (text : List ℕ) (statement : Statement). IsTextOf db.schemas text (command.Run statement)) texts statements

-- transactions one after another over whole relations: what they make of these, and what they answer
abbrev pub relations_after : Database → List (List Statement) → Relations → Relations
relations_after db txns whole = serial_then local (statements db) txns whole

abbrev pub answers_after : Database → List (List Statement) → Relations → List (List Answer)
answers_after db txns whole = serial_answers_then local (statements db) txns whole

-- the committed transactions, run one after another over whole relations in the order in which their commits were asked for, give the answers that their clients heard and, under the catalogue in force, what the settled fragments rebuild, so that every other place is empty; statements: those of the texts that they stated
pub record IsSerialRun (db : Database) (whole : Relations) (machines : Machines) (entries : List Entry) : Type 0 where
  pub statements : Txn → List Statement
  pub spelled : (txn : Txn) → AllZip (λ (text : List ℕ) (statement : Statement). IsTextOf db.schemas text (command.Run statement)) (texts_of entries txn) (statements txn)
  pub answers : map (answers_to entries) (committed_in entries) ≡ serial_answers_then local (statements_of db) (map statements (committed_in entries)) whole
  pub rebuilt : (place : Place) → settled (world_of db machines [] []) place ≡ db.content machines.table.version place (serial_then local (statements_of db) (map statements (committed_in entries)) whole)

-- the serial law of the machines at hand: each run of them is serial
abbrev pub RunsAreSerial : Database → Type 0
RunsAreSerial db = (whole : Relations) (machines : Machines) (entries : List Entry) (past : List (Deed (language db))) → IsRun db whole machines entries past → IsSerialRun db whole machines entries
