-- A session: what is typed is answered line by line, over one database.
use Rattle.std.specs.Prelude.{ℕ, ◌≡◌, ◌⊎◌, ⊤, Bool, if◌then◌else◌, List, [], ◌∷◌, ◌++◌, codes, flat_map, map, Option, Result, Ok, Err}
use Rattle.std.specs.Borrow.{Bor}
use Rattle.std.specs.Io.KnownBytes.{Appends, Keeps}
use Rattle.meaning.specs.Whole.{Relations}
use Rattle.catalog.specs.Catalogue.{Catalogue}
use Rattle.protocol.specs.Desk.{Deed}
use Rattle.desk.specs.Database.{Database, language}
use Rattle.world.specs.declared.event.Entry.{Entry}
use Rattle.desk.specs.CatalogueDatabase.{database, databases, fits}
use Rattle.world.specs.Executed.{Stands}
use Rattle.world.specs.Listed.{IsListed}
use Rattle.world.specs.Runs.{IsSerialRun}
use Rattle.world.specs.Client.{IsServed}
use Rattle.forms.specs.declared.mode.Mode.{Mode}
use Rattle.forms.specs.declared.mode.Mode.TheVariants.{Tabs}
use Rattle.lines.specs.declared.fault.ProgramFault.{ProgramFault}
use Rattle.databases.specs.declared.catalog_files.ChainFault.{ChainFault}
use Rattle.databases.specs.declared.catalog_files.ChainFault.TheVariants.{Closed, Program, Refused, Unchained}
use Rattle.databases.specs.CatalogFiles.{AreSeveral}
use Rattle.databases.specs.Client.{AnswersTask, GoesOn, Seen, Standing, standing_of}
use Rattle.databases.specs.ListClient.{AnswersTaskOver, GoesOnOver, Happened, IsTold, ListStanding, in_force, list_standing_of}
use Rattle.lines.specs.Input.{IsOfInput}
use Rattle.lines.specs.Listing.{catalog_text, schema_text, tables_text}
use Rattle.commands.specs.declared.stats.Stats.{Stats}
use Rattle.commands.specs.Import.{ImportMade, imported_text}
use Rattle.commands.specs.Stats.{stats_text}
use Rattle.world.specs.declared.traffic.Traffic.{Traffic}
use Rattle.databases.specs.Origin.{BeginsWith, BeginsWithOver, IsBegun, IsBegunOver, IsLastOf, Origin}
use Rattle.lines.specs.Plan.{IsPlanOf}
use Rattle.lines.specs.Reply.{Told, text_of}
use Rattle.lines.specs.Script.{Reading}
use Rattle.databases.specs.Solo.{AnswersInTurn, IsOfRun, IsOpened, IsOpenedOver, said_by}

-- what a session begins with
abbrev pub greeting_text : List ℕ
greeting_text = codes "fragdb 0.1.0, a relational database in fragments; .help tells what can be typed" ++ 10 ∷ []

-- what asks for a line. is_more: a statement has begun in the lines before; is_open: a transaction has begun
abbrev pub prompt_text : Bool → Bool → List ℕ
prompt_text is_more is_open = if is_more then codes "   ...> " else (if is_open then codes "fragdb*> " else codes "fragdb> ")

-- what help tells
abbrev pub help_text : List ℕ
help_text =
    codes "A statement, BEGIN, COMMIT or ROLLBACK ends with its line where it is whole, or at a semicolon.\n"
    ++ codes ".help               this text\n"
    ++ codes ".tables             the relations\n"
    ++ codes ".schema [RELATION]  their columns\n"
    ++ codes ".leaves [RELATION]  their fragments, with sites, columns, conditions and rows\n"
    ++ codes ".catalog            which catalogue is in force, of how many\n"
    ++ codes ".show RELATION      the rows of a relation, rebuilt\n"
    ++ codes ".leaf LEAF          the rows of a fragment\n"
    ++ codes ".plan STATEMENT     which fragments a statement reads; EXPLAIN tells it too\n"
    ++ codes ".dump [RELATION]    statements that make the rows of relations anew\n"
    ++ codes ".read FILE          answers the lines of a script\n"
    ++ codes ".import FILE RELATION [ROWS]\n"
    ++ codes "                    inserts the rows of a CSV file, so many in a transaction\n"
    ++ codes ".stats              what this session has done, and what that cost\n"
    ++ codes ".timer on|off       tells how long each answer takes\n"
    ++ codes ".mode MODE          shows answers in tabs, columns, csv or json\n"
    ++ codes ".quit               the end, as Ctrl-D\n"
    ++ codes "rlwrap fragdb has a history, and lines that can be edited.\n"

-- what is written besides answers. The plan is one of the statement that was typed.
pub data Aside (catalogue : Catalogue) : Type 0 where
  Greeting : Aside catalogue
  Prompt : (is_more is_open : Bool) → Aside catalogue
  Help : Aside catalogue
  Tables : Aside catalogue
  Schema : (asked : List ℕ) → Aside catalogue
  InForce : (number count : ℕ) (name : List ℕ) → Aside catalogue
  Cost : (stats : Stats) (traffic : Traffic) → Aside catalogue
  Plan : (typed text : List ℕ) (of_typed : IsPlanOf catalogue typed text) → Aside catalogue
  LineEnd : Aside catalogue

abbrev pub aside_text : (catalogue : Catalogue) → Aside catalogue → List ℕ
aside_text catalogue Greeting = greeting_text
aside_text catalogue (Prompt is_more is_open) = prompt_text is_more is_open
aside_text catalogue Help = help_text
aside_text catalogue Tables = tables_text catalogue
aside_text catalogue (Schema asked) = schema_text catalogue asked
aside_text catalogue (InForce number count name) = catalog_text number count name
aside_text catalogue (Cost stats traffic) = stats_text stats traffic
aside_text catalogue (Plan typed text of_typed) = text
aside_text catalogue LineEnd = 10 ∷ []

-- the text of something besides answers
abbrev pub IsAsideOf : Catalogue → List ℕ → Type 0
IsAsideOf catalogue text = (aside : Aside catalogue) × (text ≡ aside_text catalogue aside)

-- what was asked for, how it was to be answered, and what was told
pub record Exchange : Type 0 where
  pub mode : Mode
  pub task : Reading
  pub told : Told

-- so of a command that an import asks for
abbrev pub imports_by : Reading × Told → Exchange
imports_by one = record { mode = Tabs; task = one.0; told = one.1 }

-- A piece of what is written: an answer, something else, or what came of an import. The rows of a file are inserted into a relation then, so many in a transaction; of each command that this
-- asks for nothing is written, but once how many rows are committed.
pub data Piece (catalogue : Catalogue) : Type 0 where
  Answer : (exchange : Exchange) → Piece catalogue
  Import : (made : ImportMade) → Piece catalogue
  Beside : (aside : Aside catalogue) → Piece catalogue

abbrev pub piece_text : (catalogue : Catalogue) → Piece catalogue → List ℕ
piece_text catalogue (Answer exchange) = text_of exchange.told
piece_text catalogue (Import made) = imported_text made.count
piece_text catalogue (Beside aside) = aside_text catalogue aside

abbrev pub exchange_in : (catalogue : Catalogue) → Piece catalogue → List Exchange
exchange_in catalogue (Answer exchange) = exchange ∷ []
exchange_in catalogue (Import made) = map imports_by made.answers
exchange_in catalogue (Beside aside) = []

abbrev pub exchanges_in : (catalogue : Catalogue) → List (Piece catalogue) → List Exchange
exchanges_in catalogue pieces = flat_map (exchange_in catalogue) pieces

-- exchanges, one after another: each is answered as the task of a script is
abbrev pub AnswersEach : (catalogue : Catalogue) → List Exchange → Standing catalogue → Standing catalogue → Type 0
AnswersEach catalogue [] before after = after ≡ before
AnswersEach catalogue (first ∷ others) before after = (middle : Standing catalogue) × AnswersTask first.mode catalogue first.task before middle first.told × AnswersEach catalogue others middle after

-- the calls that were made by them, each with all that was heard of it
abbrev pub said_by_each : (catalogue : Catalogue) (exchanges : List Exchange) (before after : Standing catalogue) → AnswersEach catalogue exchanges before after → List Entry
said_by_each catalogue [] before after same = []
said_by_each catalogue (first ∷ others) before after so = said_by first.mode catalogue first.task before so.0 first.told so.1 ++ said_by_each catalogue others so.0 after so.2

-- A session from the opening to its end, where all is quiet or the open transaction is ready, and the serial law holds of just what was asked for and heard in it: the committed
-- transactions, one after another over whole relations, give the answers that were heard, and what the settled fragments rebuild.
pub record IsSessionFrom (catalogue : Catalogue) (whole : Relations) (written : List ℕ) : Type 0 where
  pub opening : Standing catalogue
  pub opened : IsOpened catalogue whole opening
  pub end : Standing catalogue
  pub pieces : List (Piece catalogue)
  pub answered : AnswersEach catalogue (exchanges_in catalogue pieces) opening end
  pub lines : written ≡ flat_map (piece_text catalogue) pieces
  pub served : IsServed (database catalogue) whole end.machines end.past
  pub stands : Stands (database catalogue) (fits catalogue) end.current end.machines end.past
  pub serial : IsSerialRun (database catalogue) whole end.machines (said_by_each catalogue (exchanges_in catalogue pieces) opening end answered)

-- a piece that is written under a catalogue
abbrev pub ListPiece : Type 0
ListPiece = (catalogue : Catalogue) × Piece catalogue

abbrev pub list_piece_text : ListPiece → List ℕ
list_piece_text piece = piece_text piece.0 piece.1

-- the number that is told of the catalogue in force is this one, where one is told
abbrev pub TellsNumber : (catalogue : Catalogue) → Aside catalogue → ℕ → Type 0
TellsNumber catalogue (InForce number count name) version = number ≡ version
TellsNumber catalogue aside version = ⊤

-- What a piece comes to over a list of catalogues, where this one of them is in force: what is asked for is answered as in a script, and by an aside nothing happens.
abbrev pub PieceComes : (db : Database) (whole : Relations) (catalogue : Catalogue) → Piece catalogue → ListStanding db → ListStanding db → Type 0
PieceComes db whole catalogue (Answer exchange) before after = AnswersTaskOver exchange.mode db whole exchange.task before after exchange.told
PieceComes db whole catalogue (Import made) before after = AnswersInTurn (AnswersTaskOver Tabs db whole) made.answers before after
PieceComes db whole catalogue (Beside aside) before after = TellsNumber catalogue aside before.machines.table.version × (after ≡ before)

-- pieces, one after another, each under the catalogue of the list that is in force then
abbrev pub PiecesCome : (db : Database) (whole : Relations) → List ListPiece → ListStanding db → ListStanding db → Type 0
PiecesCome db whole [] before after = after ≡ before
PiecesCome db whole (first ∷ others) before after = (middle : ListStanding db) × (first.0 ≡ in_force db before) × PieceComes db whole first.0 first.1 before middle × PiecesCome db whole others middle after

-- So a session over a list of catalogues, whichever of them comes into force by a REFRAGMENT that is typed: the committed transactions, ordinary ones and REFRAGMENTs, one after another over whole relations, give the answers that
-- were heard in it and, under the catalogue in force at the end, what the settled fragments rebuild.
pub record IsSessionFromOver (db : Database) (whole : Relations) (written : List ℕ) : Type 0 where
  pub opening : ListStanding db
  pub opened : IsOpenedOver db whole opening
  pub end : ListStanding db
  pub pieces : List ListPiece
  pub come : PiecesCome db whole pieces opening end
  pub lines : written ≡ flat_map list_piece_text pieces
  pub told : IsTold db whole end.machines end.happened
  pub serial : IsSerialRun db whole end.machines end.happened.entries

-- a fault that may end a session whose lines this file gives
abbrev pub IsOfSession : Bor (List ℕ) → ProgramFault → Type 0
IsOfSession file fault = IsOfRun fault ⊎ IsOfInput file fault

-- a stretch of a session, over a database that goes on: all that was asked is answered, in order, and written are the answers, what came of imports, and asides
pub record IsTalk {B : Type 0} (seen : Seen B) (catalogue : Catalogue) (whole : Relations) (past : List (Deed (language (database catalogue)))) (old new : B) (written : List ℕ) : Type 0 where
  pub later : List (Deed (language (database catalogue)))
  pub goes_on : GoesOn seen catalogue whole later new
  pub pieces : List (Piece catalogue)
  pub answered : AnswersEach catalogue (exchanges_in catalogue pieces) (standing_of seen catalogue old past) (standing_of seen catalogue new later)
  pub lines : written ≡ flat_map (piece_text catalogue) pieces

-- so over a list of catalogues
pub record IsTalkOver {B : Type 0} (seen : Seen B) (db : Database) (whole : Relations) (happened : Happened db) (old new : B) (written : List ℕ) : Type 0 where
  pub later : Happened db
  pub goes_on : GoesOnOver seen db whole later new
  pub pieces : List ListPiece
  pub come : PiecesCome db whole pieces (list_standing_of seen old happened) (list_standing_of seen new later)
  pub lines : written ≡ flat_map list_piece_text pieces

-- what a call has come to: something was written, and whatever has happened before, that is a stretch of a session where the stores are clean as the call ends, over one catalogue and over each list of catalogues
pub record Talks {B : Type 0} (seen : Seen B) (before after : Option (List ℕ)) (old new : B) : Type 0 where
  pub clean : seen.is_clean new → seen.is_clean old
  pub written : List ℕ
  pub told : Appends before after written
  pub stretch : (catalogue : Catalogue) (whole : Relations) (past : List (Deed (language (database catalogue)))) → seen.is_clean new → GoesOn seen catalogue whole past old → IsTalk seen catalogue whole past old new written
  pub over : (db : Database) (whole : Relations) (happened : Happened db) → IsListed db → seen.is_clean new → GoesOnOver seen db whole happened old → IsTalkOver seen db whole happened old new written

-- seen: how databases are seen that are opened for a session; IsOrigin: what they may begin with
module _ {B : Type 0} (seen : Seen B) (IsOrigin : Origin → Type 0) where
  -- A session over a database of these catalogues that was opened for it. Where the catalogue in force as it began is the last one, and the stores are clean at its end, it is a session over this one, whatever
  -- relations it began with; and so it is a session over the list of them, whichever is in force and comes into force
  pub record HasTalked (catalogues : List Catalogue) (old new : Option (List ℕ)) : Type 0 where
    pub origin : Origin
    pub is_origin : IsOrigin origin
    pub opened : B
    pub begun : (catalogue : Catalogue) → IsLastOf catalogues origin catalogue → IsBegun seen catalogue origin opened
    pub begun_over : (first : Catalogue) (rest : List Catalogue) → catalogues ≡ first ∷ rest → IsBegunOver seen first rest origin opened
    pub ended : B
    pub talks : Talks seen old new opened ended
    pub held : (catalogue : Catalogue) (whole : Relations) → IsLastOf catalogues origin catalogue → BeginsWith catalogue origin whole → seen.is_clean ended → IsSessionFrom catalogue whole talks.written
    pub held_over : (first : Catalogue) (rest : List Catalogue) (whole : Relations) → catalogues ≡ first ∷ rest → BeginsWithOver first rest origin whole → seen.is_clean ended → IsSessionFromOver (databases first rest) whole talks.written

  -- a session whose lines this file gives had an end, or was stopped; of several catalogues a coordinator's store may keep the number of none
  abbrev pub RunsSession : Bor (List ℕ) → Option (List ℕ) → Option (List ℕ) → List Catalogue → Result Unit ChainFault → Type 0
  RunsSession file old new catalogues (Ok done) = HasTalked catalogues old new
  RunsSession file old new catalogues (Err (Program fault)) = IsOfSession file fault
  RunsSession file old new catalogues (Err (Refused fault)) = ⊥
  RunsSession file old new catalogues (Err Unchained) = AreSeveral catalogues × Keeps old new
  RunsSession file old new catalogues (Err Closed) = ⊥
