-- Which scripts run.
use Rattle.std.specs.Prelude.{Bool, ◌≡◌, ◌≤◌, ◌<◌, ◌⊎◌, ℕ, List, [], ◌∷◌, ◌++◌, flat_map, length, map, Option, Some, None, Result, Ok, Err}
use Rattle.std.specs.Borrow.{Bor}
use Rattle.std.specs.Io.KnownBytes.{Appends, Keeps}
use Rattle.std.specs.List.{list_any}
use Rattle.meaning.specs.Whole.{Relations}
use Rattle.catalog.specs.Catalogue.{Catalogue}
use Rattle.protocol.specs.Desk.{Deed}
use Rattle.desk.specs.Database.{Database, language}
use Rattle.world.specs.Course.{said_in}
use Rattle.desk.specs.CatalogueDatabase.{database, databases, fits}
use Rattle.world.specs.declared.event.Entry.{Entry}
use Rattle.world.specs.Executed.{Stands}
use Rattle.world.specs.Listed.{IsListed}
use Rattle.world.specs.Runs.{IsSerialRun}
use Rattle.world.specs.Client.{IsServed}
use Rattle.forms.specs.declared.mode.Mode.{Mode}
use Rattle.lines.specs.declared.fault.ProgramFault.{ProgramFault}
use Rattle.lines.specs.declared.fault.ProgramFault.TheVariants.{CannotRead, CannotWrite, Malformed, Memory, ScriptTooLong, Store}
use Rattle.databases.specs.declared.catalog_files.ChainFault.{ChainFault}
use Rattle.databases.specs.declared.catalog_files.ChainFault.TheVariants.{Closed, Program, Refused, Unchained}
use Rattle.databases.specs.CatalogFiles.{AreSeveral}
use Rattle.databases.specs.Client.{AnswersTask, GoesOn, IsOfClient, Seen, Standing, standing_of}
use Rattle.databases.specs.ListClient.{AnswersTaskOver, GoesOnOver, Happened, IsTold, ListStanding, list_standing_of, unhappened}
use Rattle.databases.specs.Origin.{BeginsWith, BeginsWithOver, IsBegun, IsLastOf, Origin}
use Rattle.lines.specs.Reply.{Answered, Refused, Told, is_refusal, text_of}
use Rattle.lines.specs.Script.{Reading, Runs, first_unreadable, lines_of, tasks_of_lines}

-- how many bytes a script may have
abbrev pub longest : ℕ
longest = 1_048_576

-- a script that is short enough, each line of which can be read
pub record IsAccepted (script : List ℕ) : Type 0 where
  pub short : length script ≤ longest
  pub readable : first_unreadable (lines_of script) ≡ None

-- a fault that may come once the script runs
abbrev pub IsOfRun : ProgramFault → Type 0
IsOfRun fault = IsOfClient fault ⊎ (fault ≡ CannotWrite)

-- so over a chain of these catalogues
abbrev pub IsOfRunOver : List Catalogue → ChainFault → Type 0
IsOfRunOver catalogues (Program fault) = IsOfRun fault
IsOfRunOver catalogues (Refused fault) = ⊥
IsOfRunOver catalogues Unchained = AreSeveral catalogues
IsOfRunOver catalogues Closed = ⊥

-- a fault that may come while the script is read from this file
abbrev pub IsOfRead : Bor (List ℕ) → ProgramFault → Type 0
IsOfRead file fault = (fault ≡ Memory) ⊎ ((fault ≡ ScriptTooLong) ⊎ (fault ≡ CannotRead file))

-- Answers: what a task is answered by, and where the client stands before it and after it
module _ {S : Type 0} (Answers : Reading → S → S → Told → Type 0) where
  -- tasks, one after another, with the answer to each
  abbrev pub AnswersInTurn : List (Reading × Told) → S → S → Type 0
  AnswersInTurn [] before after = after ≡ before
  AnswersInTurn (first ∷ others) before after = (middle : S) × Answers first.0 before middle first.1 × AnswersInTurn others middle after

  -- What tasks come to from where a client stands: one answer to each, in order, all of which is written, and whether a line was refused.
  pub record IsWorkBy (tasks : List Reading) (written : List ℕ) (any_refused : Bool) (before after : S) : Type 0 where
    pub answers : List (Reading × Told)
    pub in_order : map (λ p. p.0) answers ≡ tasks
    pub answered : AnswersInTurn answers before after
    pub lines : written ≡ flat_map (λ p. text_of p.1) answers
    pub refused : any_refused ≡ list_any (λ p. is_refusal p.1) answers

-- tasks over one catalogue, one after another
abbrev pub AnswersTasks : (mode : Mode) (catalogue : Catalogue) → List (Reading × Told) → Standing catalogue → Standing catalogue → Type 0
AnswersTasks mode catalogue answers before after = AnswersInTurn (AnswersTask mode catalogue) answers before after

-- the calls that a task made, each with all that was heard of it
abbrev pub said_by : (mode : Mode) (catalogue : Catalogue) (task : Reading) (before after : Standing catalogue) (told : Told) → AnswersTask mode catalogue task before after told → List Entry
said_by mode catalogue (Runs text) before after (Answered told) answers = said_in answers.does.moves
said_by mode catalogue (Runs text) before after (Refused told) answers = said_in answers.does.moves
said_by mode catalogue task before after told answers = []

-- so of tasks, one after another
abbrev pub said_by_tasks : (mode : Mode) (catalogue : Catalogue) (answers : List (Reading × Told)) (before after : Standing catalogue) → AnswersTasks mode catalogue answers before after → List Entry
said_by_tasks mode catalogue [] before after same = []
said_by_tasks mode catalogue (first ∷ others) before after so = said_by mode catalogue first.0 before so.0 first.1 so.1 ++ said_by_tasks mode catalogue others so.0 after so.2

-- what tasks come to over one catalogue
abbrev pub IsWork : (mode : Mode) (catalogue : Catalogue) → List Reading → List ℕ → Bool → Standing catalogue → Standing catalogue → Type 0
IsWork mode catalogue tasks written any_refused before after = IsWorkBy (AnswersTask mode catalogue) tasks written any_refused before after

-- so over a list of catalogues
abbrev pub IsWorkOver : (mode : Mode) (db : Database) (whole : Relations) → List Reading → List ℕ → Bool → ListStanding db → ListStanding db → Type 0
IsWorkOver mode db whole tasks written any_refused before after = IsWorkBy (AnswersTaskOver mode db whole) tasks written any_refused before after

-- a database that was opened over these whole relations: nothing has happened, and no transaction has begun
pub record IsOpened (catalogue : Catalogue) (whole : Relations) (standing : Standing catalogue) : Type 0 where
  pub served : IsServed (database catalogue) whole standing.machines standing.past
  pub none : standing.past ≡ []
  pub idle : standing.current ≡ None

-- A run of tasks from the opening to its end, where all is quiet or the open transaction is ready, and the serial law holds of just what was asked for and heard by them: the committed
-- transactions, one after another over whole relations, give the answers that were heard, and what the settled fragments rebuild.
pub record IsRunFrom (mode : Mode) (catalogue : Catalogue) (whole : Relations) (tasks : List Reading) (written : List ℕ) (any_refused : Bool) : Type 0 where
  pub opening : Standing catalogue
  pub opened : IsOpened catalogue whole opening
  pub end : Standing catalogue
  pub work : IsWork mode catalogue tasks written any_refused opening end
  pub served : IsServed (database catalogue) whole end.machines end.past
  pub stands : Stands (database catalogue) (fits catalogue) end.current end.machines end.past
  pub serial : IsSerialRun (database catalogue) whole end.machines (said_by_tasks mode catalogue work.answers opening end work.answered)

-- a database of a list of catalogues that was opened over these whole relations: nothing has happened, and no transaction has begun
pub record IsOpenedOver (db : Database) (whole : Relations) (standing : ListStanding db) : Type 0 where
  pub told : IsTold db whole standing.machines standing.happened
  pub none : standing.happened ≡ unhappened
  pub idle : standing.current ≡ None

-- So a run of tasks over a list of catalogues, whichever of them comes into force: the committed transactions, ordinary ones and REFRAGMENTs, one after another over whole relations, give the answers that were heard
-- and, under the catalogue in force at the end, what the settled fragments rebuild.
pub record IsRunFromOver (mode : Mode) (db : Database) (whole : Relations) (tasks : List Reading) (written : List ℕ) (any_refused : Bool) : Type 0 where
  pub opening : ListStanding db
  pub opened : IsOpenedOver db whole opening
  pub end : ListStanding db
  pub work : IsWorkOver mode db whole tasks written any_refused opening end
  pub told : IsTold db whole end.machines end.happened
  pub serial : IsSerialRun db whole end.machines end.happened.entries

-- what stopped a script, of which all bytes were read
abbrev pub StopsRun : List ℕ → Option (List ℕ) → Option (List ℕ) → ProgramFault → Type 0
StopsRun script old new (Malformed line) = (first_unreadable (lines_of script) ≡ Some line) × Keeps old new
StopsRun script old new Memory = ¬ (IsAccepted script) → Keeps old new
StopsRun script old new (Store why) = IsAccepted script
StopsRun script old new CannotWrite = IsAccepted script
StopsRun script old new (CannotRead name) = ⊥
StopsRun script old new ScriptTooLong = ⊥

-- what stopped the script of this file
abbrev pub StopsScript : Bor (List ℕ) → List ℕ → Option (List ℕ) → Option (List ℕ) → ProgramFault → Type 0
StopsScript file script old new (CannotRead name) = (name ≡ file) × Keeps old new
StopsScript file script old new ScriptTooLong = (longest < length script) × Keeps old new
StopsScript file script old new (Malformed line) = (length script ≤ longest) × (first_unreadable (lines_of script) ≡ Some line) × Keeps old new
StopsScript file script old new Memory = ¬ (IsAccepted script) → Keeps old new
StopsScript file script old new (Store why) = IsAccepted script
StopsScript file script old new CannotWrite = IsAccepted script

-- a run of tasks over a database that goes on
pub record IsStretch {B : Type 0} (seen : Seen B) (mode : Mode) (catalogue : Catalogue) (whole : Relations) (tasks : List Reading) (past : List (Deed (language (database catalogue)))) (old new : B) (written : List ℕ) (any_refused : Bool) : Type 0 where
  pub later : List (Deed (language (database catalogue)))
  pub goes_on : GoesOn seen catalogue whole later new
  pub work : IsWork mode catalogue tasks written any_refused (standing_of seen catalogue old past) (standing_of seen catalogue new later)

-- so over a list of catalogues
pub record IsStretchOver {B : Type 0} (seen : Seen B) (mode : Mode) (db : Database) (whole : Relations) (tasks : List Reading) (happened : Happened db) (old new : B) (written : List ℕ) (any_refused : Bool) : Type 0 where
  pub later : Happened db
  pub goes_on : GoesOnOver seen db whole later new
  pub work : IsWorkOver mode db whole tasks written any_refused (list_standing_of seen old happened) (list_standing_of seen new later)

-- something was written, and whatever has happened before, that is a run of these tasks where the stores are clean at its end
pub record Stretches {B : Type 0} (seen : Seen B) (mode : Mode) (tasks : List Reading) (before after : Option (List ℕ)) (old new : B) (any_refused : Bool) : Type 0 where
  pub written : List ℕ
  pub told : Appends before after written
  pub ran : (catalogue : Catalogue) (whole : Relations) (past : List (Deed (language (database catalogue)))) → seen.is_clean new → GoesOn seen catalogue whole past old → IsStretch seen mode catalogue whole tasks past old new written any_refused
  pub over : (db : Database) (whole : Relations) (happened : Happened db) → IsListed db → seen.is_clean new → GoesOnOver seen db whole happened old → IsStretchOver seen mode db whole tasks happened old new written any_refused

-- seen: how databases are seen that are opened for a run; IsOrigin: what they may begin with
module _ {B : Type 0} (seen : Seen B) (IsOrigin : Origin → Type 0) where
  -- a run of tasks over a database that was opened for it, whatever relations it began with. It is one where the stores are clean at its end
  pub record IsRun (mode : Mode) (catalogue : Catalogue) (tasks : List Reading) (written : List ℕ) (any_refused : Bool) : Type 0 where
    pub origin : Origin
    pub is_origin : IsOrigin origin
    pub ended : B
    pub ran : (whole : Relations) → BeginsWith catalogue origin whole → seen.is_clean ended → IsRunFrom mode catalogue whole tasks written any_refused

  -- A run of tasks over a database of these catalogues that was opened for it. Where the catalogue in force as it began is the last one, and the stores are clean at its end, it is a run over this one, whatever
  -- relations it began with; and so it is a run over the list of them, whichever is in force and comes into force
  pub record IsRunOver (mode : Mode) (catalogues : List Catalogue) (tasks : List Reading) (old new : Option (List ℕ)) (any_refused : Bool) : Type 0 where
    pub origin : Origin
    pub is_origin : IsOrigin origin
    pub opened : B
    pub begun : (catalogue : Catalogue) → IsLastOf catalogues origin catalogue → IsBegun seen catalogue origin opened
    pub ended : B
    pub stretch : Stretches seen mode tasks old new opened ended any_refused
    pub ran : (catalogue : Catalogue) (whole : Relations) → IsLastOf catalogues origin catalogue → BeginsWith catalogue origin whole → seen.is_clean ended → IsRunFrom mode catalogue whole tasks stretch.written any_refused
    pub ran_over : (first : Catalogue) (rest : List Catalogue) (whole : Relations) → catalogues ≡ first ∷ rest → BeginsWithOver first rest origin whole → seen.is_clean ended → IsRunFromOver mode (databases first rest) whole tasks stretch.written any_refused

  -- a script that may run has run to its end, and all that its lines are answered by was written
  abbrev pub HasRun : Mode → List Catalogue → List ℕ → Option (List ℕ) → Option (List ℕ) → Bool → Type 0
  HasRun mode catalogues script old new any_refused = IsAccepted script × IsRunOver mode catalogues (tasks_of_lines (lines_of script)) old new any_refused

  -- a script that is short enough ran to its end, or was stopped
  abbrev pub RunsOrStops : Mode → List Catalogue → List ℕ → Option (List ℕ) → Option (List ℕ) → Result Bool ChainFault → Type 0
  RunsOrStops mode catalogues script old new (Ok any_refused) = HasRun mode catalogues script old new any_refused
  RunsOrStops mode catalogues script old new (Err (Program fault)) = StopsRun script old new fault
  RunsOrStops mode catalogues script old new (Err (Refused fault)) = ⊥
  RunsOrStops mode catalogues script old new (Err Unchained) = AreSeveral catalogues × IsAccepted script × Keeps old new
  RunsOrStops mode catalogues script old new (Err Closed) = ⊥

  -- the script of a file ran to its end, or was stopped: of several catalogues also since the coordinator's store keeps the number of none
  abbrev pub RunsScript : Mode → Bor (List ℕ) → List ℕ → Option (List ℕ) → Option (List ℕ) → List Catalogue → Result Bool ChainFault → Type 0
  RunsScript mode file script old new catalogues (Ok any_refused) = HasRun mode catalogues script old new any_refused
  RunsScript mode file script old new catalogues (Err (Program fault)) = StopsScript file script old new fault
  RunsScript mode file script old new catalogues (Err (Refused fault)) = ⊥
  RunsScript mode file script old new catalogues (Err Unchained) = AreSeveral catalogues × IsAccepted script × Keeps old new
  RunsScript mode file script old new catalogues (Err Closed) = ⊥
