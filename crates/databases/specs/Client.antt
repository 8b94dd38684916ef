-- What the commands of a script come to over a database for one client, and what is shown of it.
use Rattle.std.specs.Prelude.{◌≡◌, ◌⊎◌, ℕ, false, List, [], ◌++◌, flat_map, map, Option, Some, None, Result, Ok, Err}
use Rattle.terms.specs.declared.leaf.Leaf.{Leaf}
use Rattle.terms.specs.declared.value.Value.{Value}
use Rattle.meaning.specs.Whole.{FitsSchema, Relations}
use Rattle.catalog.specs.Catalogue.{Catalogue}
use Rattle.catalog.specs.FragmentLeaf.{catalogue_leaves, schemas_of}
use Rattle.catalog.specs.Relation.{catalogue_of}
use Rattle.store.specs.declared.fault.StoreFault.{StoreFault}
use Rattle.store.specs.declared.name.Txn.{Txn}
use Rattle.store.specs.DeskContent.{DeskContent}
use Rattle.store.specs.SiteContent.{SiteContent}
use Rattle.protocol.specs.Desk.{Deed}
use Rattle.protocol.specs.Serial.{committed}
use Rattle.desk.specs.declared.refusal.Refusal.{Refusal}
use Rattle.desk.specs.declared.reply.Notice.{Notice}
use Rattle.desk.specs.declared.reply.Reply as replies
use Rattle.desk.specs.declared.reply.Reply.TheVariants as reply
use Rattle.desk.specs.Database.{language}
use Rattle.world.specs.declared.solo.Solo as code
use Rattle.desk.specs.CatalogueDatabase.{database, fits}
use Rattle.world.specs.declared.event.Entry.{Entry}
use Rattle.world.specs.Commands.{IsCommand, Outcome}
use Rattle.world.specs.Contents.{OfStores, counted}
use Rattle.world.specs.Course.{Move, said_in}
use Rattle.world.specs.Machines.{Machines}
use Rattle.world.specs.Executed.{Stands}
use Rattle.world.specs.Client.{IsServed}
use Rattle.world.specs.Settled.{AreThoseOf, parts_kept, rows_shown}
use Rattle.world.specs.Replies.{Tells}
use Rattle.world.specs.Stopping.{is_stop}
use Rattle.forms.specs.declared.mode.Mode.{Mode}
use Rattle.forms.specs.Mode.{answer_in, line_in}
use Rattle.lines.specs.declared.fault.ProgramFault.{ProgramFault}
use Rattle.lines.specs.declared.fault.ProgramFault.TheVariants.{Memory, Store}
use Rattle.databases.specs.PlayText.{refused_text, reply_text}
use Rattle.lines.specs.Reply.{Answered, Refused, Told}
use Rattle.lines.specs.Script.{CountsLeaf as To_count_leaf, DumpsRelation as To_dump_relation, Nothing, Reading, Runs, ShowsLeaf as To_show_leaf, ShowsRelation as To_show_relation, Unreadable}
use Rattle.databases.specs.Shown.{counted_text, dumped_text, no_leaf_text, parts_text, relation_text, written_leaf}

-- how a database for one client is seen: whether its stores gave back what was written, and keep it as stores leave it; its machines, with how often the medium of each
-- store has refused; the transaction that the client has begun; what has stopped it; the catalogue in force, its number, and those that come after it
pub record Seen (B : Type 0) : Type 1 where
  pub is_clean : B → Type 0
  pub is_sound : B → Type 0
  pub machines : B → Machines
  pub current : B → Option Txn
  pub stopped : B → Option Refusal
  pub catalogue : B → Catalogue
  pub version : B → ℕ
  pub later : B → List Catalogue

-- so over stores of these kinds
abbrev pub seen_over : {D S : Type 0} → (D → Type 0) → (S → Type 0) → (D → Type 0) → (S → Type 0) → (D → DeskContent) → (S → SiteContent) → (D → ℕ) → (S → ℕ) → Seen (code.Solo D S)
seen_over desk_is_clean site_is_clean desk_is_sound site_is_sound of_desk of_site desk_refused site_refused = record {
  is_clean = λ solo. OfStores desk_is_clean site_is_clean solo.machines;
  is_sound = λ solo. OfStores desk_is_sound site_is_sound solo.machines;
  machines = λ solo. counted of_desk of_site desk_refused site_refused solo.machines;
  current = λ solo. solo.current;
  stopped = λ solo. solo.stopped;
  catalogue = λ solo. catalogue_of solo.machines.desk.catalog;
  version = λ solo. solo.machines.desk.volatile.version;
  later = λ solo. map catalogue_of solo.machines.desk.later.items;
}

-- where a client stands: its database's machines, the transaction that it has begun, and what has happened to transactions since the opening
pub record Standing (catalogue : Catalogue) : Type 0 where
  pub machines : Machines
  pub current : Option Txn
  pub past : List (Deed (language (database catalogue)))

abbrev pub standing_of : {B : Type 0} → Seen B → (catalogue : Catalogue) → B → List (Deed (language (database catalogue))) → Standing catalogue
standing_of seen catalogue base past = record { machines = seen.machines base; current = seen.current base; past = past }

-- nothing has stopped the database of this catalogue, whose machines stand after a run of the protocol, which began over these whole relations and to which this has happened; all is quiet, or the transaction that its client has begun is ready
pub record GoesOn {B : Type 0} (seen : Seen B) (catalogue : Catalogue) (whole : Relations) (past : List (Deed (language (database catalogue)))) (base : B) : Type 0 where
  pub going : seen.stopped base ≡ None
  pub catalog : seen.catalogue base ≡ catalogue
  pub sound : seen.is_sound base
  pub served : IsServed (database catalogue) whole (seen.machines base) past
  pub stands : Stands (database catalogue) (fits catalogue) (seen.current base) (seen.machines base) past

-- nothing has happened: whoever stood before stands so now; how often media have refused is left aside
pub record StandsStill {catalogue : Catalogue} (before after : Standing catalogue) : Type 0 where
  pub machines : record (after.machines) { refused = [] } ≡ record (before.machines) { refused = [] }
  pub current : after.current ≡ before.current
  pub past : after.past ≡ before.past

-- a reply to a client: an answer as it is shown, and any other in a line
abbrev pub reply_in : Mode → replies.Reply → List ℕ
reply_in mode (reply.Answer answer) = answer_in mode answer
reply_in mode other = line_in mode (reply_text other)

-- what a client hears, notice by notice
abbrev pub heard_text : Mode → List Notice → List ℕ
heard_text mode heard = flat_map (λ notice. reply_in mode notice.reply) heard

-- a command makes its calls, and they come to its outcome: it has done what it asks for, or something was refused on the way, or it is refused for its reason alone. What has
-- happened is what its calls did, and what was asked for and heard of them tells it
pub record IsDone (catalogue : Catalogue) (text : List ℕ) (before after : Standing catalogue) (reply : Result (List Notice) Refusal) : Type 0 where
  pub moves : List Move
  pub deeds : List (Deed (language (database catalogue)))
  pub command : IsCommand (database catalogue).schemas text before.current after.current moves reply
  pub outcome : Outcome (database catalogue) text before.current after.current before.machines after.machines before.past deeds reply
  pub tells : (entries : List Entry) → Tells (database catalogue) entries before.past → Tells (database catalogue) (entries ++ said_in moves) (before.past ++ deeds)
  pub happened : after.past ≡ before.past ++ deeds

-- it is executed, and all that its client hears is told
pub record IsHeard (mode : Mode) (catalogue : Catalogue) (text : List ℕ) (before after : Standing catalogue) (told : List ℕ) : Type 0 where
  pub heard : List Notice
  pub does : IsDone catalogue text before after (Ok heard)
  pub lines : told ≡ heard_text mode heard

-- it is refused, which stops nothing, and that is told: the text is no command's, BEGIN comes inside a transaction, COMMIT or ROLLBACK outside one, or something is at a limit. The
-- transaction that was open stays so, and nothing is committed
pub record IsTurnedAway (mode : Mode) (catalogue : Catalogue) (text : List ℕ) (before after : Standing catalogue) (told : List ℕ) : Type 0 where
  pub refusal : Refusal
  pub does : IsDone catalogue text before after (Err refusal)
  pub goes_on : is_stop refusal ≡ false
  pub same : after.current ≡ before.current
  pub uncommitted : committed after.past ≡ committed before.past
  pub line : told ≡ line_in mode (refused_text refusal)

-- what a command is answered by
abbrev pub AnswersLine : (mode : Mode) (catalogue : Catalogue) → List ℕ → Standing catalogue → Standing catalogue → Told → Type 0
AnswersLine mode catalogue text before after (Answered told) = IsHeard mode catalogue text before after told
AnswersLine mode catalogue text before after (Refused told) = IsTurnedAway mode catalogue text before after told

-- the rows of a relation are told that it has in the whole database that the settled fragments are those of; text_of: how they are written
abbrev pub TellsRows : (catalogue : Catalogue) → (Option (List (List Value)) → List ℕ) → List ℕ → Standing catalogue → Standing catalogue → List ℕ → Type 0
TellsRows catalogue text_of name before after told =
    StandsStill before after × ((whole : Relations) → AreThoseOf (database catalogue) before.machines whole → FitsSchema (schemas_of catalogue) whole → told ≡ text_of (rows_shown (database catalogue) whole name))

-- a relation is shown
abbrev pub ShowsRelation : (mode : Mode) (catalogue : Catalogue) → List ℕ → Standing catalogue → Standing catalogue → List ℕ → Type 0
ShowsRelation mode catalogue name before after told = TellsRows catalogue (relation_text mode catalogue name) name before after told

-- a relation is written as statements that make its rows anew
abbrev pub DumpsRelation : (mode : Mode) (catalogue : Catalogue) → List ℕ → Standing catalogue → Standing catalogue → List ℕ → Type 0
DumpsRelation mode catalogue name before after told = TellsRows catalogue (dumped_text mode catalogue name) name before after told

-- a leaf is shown with the parts that its site keeps; name: how it was asked for
abbrev pub ShowsPartsOf : (mode : Mode) (catalogue : Catalogue) → List ℕ → Leaf → Standing catalogue → Standing catalogue → List ℕ → Type 0
ShowsPartsOf mode catalogue name leaf before after told = StandsStill before after × (told ≡ parts_text mode catalogue name leaf (parts_kept (database catalogue) before.machines leaf))

abbrev pub ShowsLeafAs : (mode : Mode) (catalogue : Catalogue) → List ℕ → Option Leaf → Standing catalogue → Standing catalogue → List ℕ → Type 0
ShowsLeafAs mode catalogue name None before after told = StandsStill before after × (told ≡ no_leaf_text mode name)
ShowsLeafAs mode catalogue name (Some leaf) before after told = ShowsPartsOf mode catalogue name leaf before after told

abbrev pub ShowsLeaf : (mode : Mode) (catalogue : Catalogue) → List ℕ → Standing catalogue → Standing catalogue → List ℕ → Type 0
ShowsLeaf mode catalogue name before after told = ShowsLeafAs mode catalogue name (written_leaf name (catalogue_leaves catalogue)) before after told

-- a leaf is told, with how many parts its site keeps; name: how it was asked for
abbrev pub CountsPartsOf : (mode : Mode) (catalogue : Catalogue) → List ℕ → Leaf → Standing catalogue → Standing catalogue → List ℕ → Type 0
CountsPartsOf mode catalogue name leaf before after told = StandsStill before after × (told ≡ counted_text mode catalogue name leaf (parts_kept (database catalogue) before.machines leaf))

abbrev pub CountsLeafAs : (mode : Mode) (catalogue : Catalogue) → List ℕ → Option Leaf → Standing catalogue → Standing catalogue → List ℕ → Type 0
CountsLeafAs mode catalogue name None before after told = StandsStill before after × (told ≡ no_leaf_text mode name)
CountsLeafAs mode catalogue name (Some leaf) before after told = CountsPartsOf mode catalogue name leaf before after told

abbrev pub CountsLeaf : (mode : Mode) (catalogue : Catalogue) → List ℕ → Standing catalogue → Standing catalogue → List ℕ → Type 0
CountsLeaf mode catalogue name before after told = CountsLeafAs mode catalogue name (written_leaf name (catalogue_leaves catalogue)) before after told

-- what a task is answered by, and where the client stands before it and after it
abbrev pub AnswersTask : (mode : Mode) (catalogue : Catalogue) → Reading → Standing catalogue → Standing catalogue → Told → Type 0
AnswersTask mode catalogue Nothing before after told = ⊥
AnswersTask mode catalogue (Runs text) before after told = AnswersLine mode catalogue text before after told
AnswersTask mode catalogue (To_show_relation name) before after (Answered told) = ShowsRelation mode catalogue name before after told
AnswersTask mode catalogue (To_show_relation name) before after (Refused told) = ⊥
AnswersTask mode catalogue (To_show_leaf name) before after (Answered told) = ShowsLeaf mode catalogue name before after told
AnswersTask mode catalogue (To_show_leaf name) before after (Refused told) = ⊥
AnswersTask mode catalogue (To_dump_relation name) before after (Answered told) = DumpsRelation mode catalogue name before after told
AnswersTask mode catalogue (To_dump_relation name) before after (Refused told) = ⊥
AnswersTask mode catalogue (To_count_leaf name) before after (Answered told) = CountsLeaf mode catalogue name before after told
AnswersTask mode catalogue (To_count_leaf name) before after (Refused told) = ⊥
AnswersTask mode catalogue Unreadable before after told = ⊥

-- a task is answered, and the database goes on from what has happened by then
pub record IsAnswered {B : Type 0} (seen : Seen B) (mode : Mode) (catalogue : Catalogue) (whole : Relations) (task : Reading) (past : List (Deed (language (database catalogue)))) (old new : B) (told : Told) : Type 0 where
  pub later : List (Deed (language (database catalogue)))
  pub goes_on : GoesOn seen catalogue whole later new
  pub answers : AnswersTask mode catalogue task (standing_of seen catalogue old past) (standing_of seen catalogue new later) told

-- a fault that may stop a database, or come while its answers are put together
abbrev pub IsOfClient : ProgramFault → Type 0
IsOfClient fault = (fault ≡ Memory) ⊎ ((why : StoreFault) × (fault ≡ Store why))
