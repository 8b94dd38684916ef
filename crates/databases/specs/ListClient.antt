-- What the commands of a script come to over a list of catalogues, of which another one may come into force.
use Rattle.std.specs.Prelude.{◌≡◌, ⊤, ℕ, suc, false, List, [], ◌∷◌, ◌++◌, Option, Some, None, Result, Ok, Err}
use Rattle.std.specs.List.{AllByRecursion}
use Rattle.terms.specs.declared.leaf.Leaf.{Leaf}
use Rattle.terms.specs.declared.value.Value.{Value}
use Rattle.meaning.specs.Whole.{Relations}
use Rattle.catalog.specs.Catalogue.{Catalogue}
use Rattle.catalog.specs.FragmentLeaf.{catalogue_leaves}
use Rattle.store.specs.declared.name.Txn.{Txn}
use Rattle.protocol.specs.Desk.{Deed}
use Rattle.protocol.specs.Serial.{committed}
use Rattle.desk.specs.declared.refusal.Refusal.{Refusal}
use Rattle.desk.specs.declared.reply.Notice.{Notice}
use Rattle.desk.specs.Database.{Database, language}
use Rattle.world.specs.declared.event.Entry.{Entry}
use Rattle.world.specs.Commands.{IsCommand}
use Rattle.world.specs.Course.{Move, said_in}
use Rattle.world.specs.ListServed.{HasItsReason, IsListServed}
use Rattle.world.specs.Machines.{Machines}
use Rattle.world.specs.Replies.{Tells}
use Rattle.world.specs.Settled.{ShowsSerial, parts_kept}
use Rattle.world.specs.Stopping.{is_stop}
use Rattle.forms.specs.declared.mode.Mode.{Mode}
use Rattle.forms.specs.Mode.{line_in}
use Rattle.databases.specs.PlayText.{refused_text}
use Rattle.lines.specs.Reply.{Answered, Refused, Told}
use Rattle.lines.specs.Script.{CountsLeaf as To_count_leaf, DumpsRelation as To_dump_relation, Nothing, Reading, Runs, ShowsLeaf as To_show_leaf, ShowsRelation as To_show_relation, Unreadable}
use Rattle.databases.specs.Client.{Seen, heard_text}
use Rattle.databases.specs.Shown.{counted_text, dumped_text, no_leaf_text, parts_text, relation_text, written_leaf}

-- these are the catalogues of the numbers behind this one
abbrev pub AreBehind : Database → ℕ → List Catalogue → Type 0
AreBehind db n [] = ⊤
AreBehind db n (next ∷ rest) = (db.catalogue (suc n) ≡ next) × AreBehind db (suc n) rest

-- what there has been since the opening: what has happened to transactions, and what the client asked for and heard
pub record Happened (db : Database) : Type 0 where
  pub deeds : List (Deed (language db))
  pub entries : List Entry

-- nothing yet
abbrev pub unhappened : {db : Database} → Happened db
unhappened = record { deeds = []; entries = [] }

-- a run of the protocol over the list, which began over these whole relations and in which this has happened, has led to the machines, and what the client asked for and heard tells it
pub record IsTold (db : Database) (whole : Relations) (machines : Machines) (happened : Happened db) : Type 0 where
  pub served : IsListServed db whole machines happened.deeds
  pub tells : Tells db happened.entries happened.deeds

-- where a client stands: its database's machines, the transaction that it has begun, and what has happened since the opening
pub record ListStanding (db : Database) : Type 0 where
  pub machines : Machines
  pub current : Option Txn
  pub happened : Happened db

abbrev pub list_standing_of : {B : Type 0} {db : Database} → Seen B → B → Happened db → ListStanding db
list_standing_of seen base happened = record { machines = seen.machines base; current = seen.current base; happened = happened }

-- the catalogue in force where a client stands
abbrev pub in_force : (db : Database) → ListStanding db → Catalogue
in_force db standing = db.catalogue standing.machines.table.version

-- nothing has stopped the database of this list: its catalogue in force is that of its number, which its machines keep, those that come after it are those behind, and what has happened is told
pub record GoesOnOver {B : Type 0} (seen : Seen B) (db : Database) (whole : Relations) (happened : Happened db) (base : B) : Type 0 where
  pub going : seen.stopped base ≡ None
  pub number : seen.version base ≡ (seen.machines base).table.version
  pub here : db.catalogue (seen.version base) ≡ seen.catalogue base
  pub next : AreBehind db (seen.version base) (seen.later base)
  pub sound : seen.is_sound base
  pub told : IsTold db whole (seen.machines base) happened

-- nothing more has happened: whoever stood before stands so now; how often media have refused is left aside
pub record StaysStill {db : Database} (before after : ListStanding db) : Type 0 where
  pub machines : record (after.machines) { refused = [] } ≡ record (before.machines) { refused = [] }
  pub current : after.current ≡ before.current
  pub happened : after.happened ≡ before.happened

-- a command makes these moves, by further deeds, and comes to this reply; each move that was refused has its reason, and what was asked for and heard of them is added
pub record IsDoneOver (db : Database) (whole : Relations) (text : List ℕ) (before after : ListStanding db) (reply : Result (List Notice) Refusal) : Type 0 where
  pub moves : List Move
  pub deeds : List (Deed (language db))
  pub command : IsCommand db.schemas text before.current after.current moves reply
  pub reasons : AllByRecursion (HasItsReason db whole before.happened.deeds deeds) moves
  pub happened : after.happened ≡ record { deeds = before.happened.deeds ++ deeds; entries = before.happened.entries ++ said_in moves }
  pub told : IsTold db whole after.machines after.happened

-- it is executed, and all that its client hears is told
pub record IsHeardOver (mode : Mode) (db : Database) (whole : Relations) (text : List ℕ) (before after : ListStanding db) (told : List ℕ) : Type 0 where
  pub heard : List Notice
  pub does : IsDoneOver db whole text before after (Ok heard)
  pub lines : told ≡ heard_text mode heard

-- it is refused, which stops nothing, and that is told; the transaction that was open stays so, and nothing is committed
pub record IsTurnedAwayOver (mode : Mode) (db : Database) (whole : Relations) (text : List ℕ) (before after : ListStanding db) (told : List ℕ) : Type 0 where
  pub refusal : Refusal
  pub does : IsDoneOver db whole text before after (Err refusal)
  pub goes_on : is_stop refusal ≡ false
  pub same : after.current ≡ before.current
  pub uncommitted : committed after.happened.deeds ≡ committed before.happened.deeds
  pub line : told ≡ line_in mode (refused_text refusal)

-- what a command is answered by
abbrev pub AnswersLineOver : (mode : Mode) (db : Database) (whole : Relations) → List ℕ → ListStanding db → ListStanding db → Told → Type 0
AnswersLineOver mode db whole text before after (Answered told) = IsHeardOver mode db whole text before after told
AnswersLineOver mode db whole text before after (Refused told) = IsTurnedAwayOver mode db whole text before after told

-- the rows of a relation are told that the transactions have made which were committed by then, one after another; text_of: how they are written under a catalogue
abbrev pub TellsRowsOver : (db : Database) (whole : Relations) → (Catalogue → Option (List (List Value)) → List ℕ) → List ℕ → ListStanding db → ListStanding db → List ℕ → Type 0
TellsRowsOver db whole text_of name before after told =
    StaysStill before after × ((rows : Option (List (List Value))) × ShowsSerial db whole before.happened.entries name rows × (told ≡ text_of (in_force db before) rows))

-- a leaf of the catalogue in force is told with the parts that its site keeps; text_of: how they are written under a catalogue
abbrev pub TellsPartsOver : (db : Database) → (Catalogue → Leaf → Option (List (List Value)) → List ℕ) → Leaf → ListStanding db → ListStanding db → List ℕ → Type 0
TellsPartsOver db text_of leaf before after told = StaysStill before after × (told ≡ text_of (in_force db before) leaf (parts_kept db before.machines leaf))

-- so of the leaf that was asked for by this name, if there is one
abbrev pub TellsLeafAsOver : (mode : Mode) (db : Database) → (Catalogue → Leaf → Option (List (List Value)) → List ℕ) → List ℕ → Option Leaf → ListStanding db → ListStanding db → List ℕ → Type 0
TellsLeafAsOver mode db text_of name None before after told = StaysStill before after × (told ≡ no_leaf_text mode name)
TellsLeafAsOver mode db text_of name (Some leaf) before after told = TellsPartsOver db text_of leaf before after told

abbrev pub TellsLeafOver : (mode : Mode) (db : Database) → (Catalogue → Leaf → Option (List (List Value)) → List ℕ) → List ℕ → ListStanding db → ListStanding db → List ℕ → Type 0
TellsLeafOver mode db text_of name before after told = TellsLeafAsOver mode db text_of name (written_leaf name (catalogue_leaves (in_force db before))) before after told

-- what a task is answered by, and where the client stands before it and after it
abbrev pub AnswersTaskOver : (mode : Mode) (db : Database) (whole : Relations) → Reading → ListStanding db → ListStanding db → Told → Type 0
AnswersTaskOver mode db whole Nothing before after told = ⊥
AnswersTaskOver mode db whole (Runs text) before after told = AnswersLineOver mode db whole text before after told
AnswersTaskOver mode db whole (To_show_relation name) before after (Answered told) = TellsRowsOver db whole (λ catalogue. relation_text mode catalogue name) name before after told
AnswersTaskOver mode db whole (To_show_relation name) before after (Refused told) = ⊥
AnswersTaskOver mode db whole (To_show_leaf name) before after (Answered told) = TellsLeafOver mode db (λ catalogue. parts_text mode catalogue name) name before after told
AnswersTaskOver mode db whole (To_show_leaf name) before after (Refused told) = ⊥
AnswersTaskOver mode db whole (To_dump_relation name) before after (Answered told) = TellsRowsOver db whole (λ catalogue. dumped_text mode catalogue name) name before after told
AnswersTaskOver mode db whole (To_dump_relation name) before after (Refused told) = ⊥
AnswersTaskOver mode db whole (To_count_leaf name) before after (Answered told) = TellsLeafOver mode db (λ catalogue. counted_text mode catalogue name) name before after told
AnswersTaskOver mode db whole (To_count_leaf name) before after (Refused told) = ⊥
AnswersTaskOver mode db whole Unreadable before after told = ⊥

-- a task is answered, and the database goes on from what has happened by then
pub record IsAnsweredOver {B : Type 0} (seen : Seen B) (mode : Mode) (db : Database) (whole : Relations) (task : Reading) (happened : Happened db) (old new : B) (told : Told) : Type 0 where
  pub later : Happened db
  pub goes_on : GoesOnOver seen db whole later new
  pub answers : AnswersTaskOver mode db whole task (list_standing_of seen old happened) (list_standing_of seen new later) told
