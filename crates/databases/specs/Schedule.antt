-- What a schedule does, event by event, and what is told of it.
use Rattle.std.specs.Prelude.{◌≡◌, ◌⊎◌, ℕ, Bool, true, false, List, [], ◌∷◌, ◌++◌, Option, Some, None, codes, length, map}
use Rattle.std.specs.BTreeMap.{insert_entry}
use Rattle.std.specs.Cmp.Lexicographic.{slice_cmp}
use Rattle.std.specs.Fmt.{decimal}
use Rattle.std.specs.Ordering.{nat_cmp}
use Rattle.meaning.specs.Whole.{Relations}
use Rattle.catalog.specs.Catalogue.{Catalogue}
use Rattle.catalog.specs.Relation.{catalogue_of}
use Rattle.store.specs.declared.letter.Letter.{Letter}
use Rattle.store.specs.declared.name.Txn.{Txn}
use Rattle.store.specs.DeskContent.{DeskContent}
use Rattle.store.specs.Name.{txn_cmp}
use Rattle.store.specs.SiteContent.{SiteContent}
use Rattle.desk.specs.declared.refusal.Refusal.TheVariants.{NoTransaction}
use Rattle.desk.specs.declared.reply.Notice.{Notice}
use Rattle.desk.specs.declared.reply.Out.{Out}
use Rattle.world.specs.declared.event.Call.{Call}
use Rattle.world.specs.declared.event.Call.TheVariants as call
use Rattle.world.specs.declared.event.Entry.{Entry}
use Rattle.world.specs.declared.event.Event.{Event}
use Rattle.world.specs.declared.event.Event.TheVariants as event
use Rattle.world.specs.declared.fault.Fault.{Fault}
use Rattle.world.specs.declared.fault.Fault.TheVariants as fault
use Rattle.world.specs.declared.world.World.{World}
use Rattle.desk.specs.Database.{Database}
use Rattle.world.specs.Contents.{OfStores, held}
use Rattle.world.specs.Counted.{counts}
use Rattle.world.specs.Events.{is_unsent}
use Rattle.world.specs.Frame.{EndsIn}
use Rattle.world.specs.Listed.{IsListed, StandsIn}
use Rattle.world.specs.Machines.{Machines}
use Rattle.world.specs.Posted.{letters_in}
use Rattle.world.specs.Runs.{IsRun, entry_of}
use Rattle.lines.specs.declared.cast.Cast.{Cast}
use Rattle.lines.specs.declared.play_script.Ask.{Ask}
use Rattle.lines.specs.declared.play_script.Ask.TheVariants as ask
use Rattle.lines.specs.declared.play_script.AtSite.{AtSite}
use Rattle.lines.specs.declared.play_script.AtSite.TheVariants as site
use Rattle.databases.specs.declared.schedule.Schedule as code
use Rattle.lines.specs.Cast.{name_of, txn_of}
use Rattle.databases.specs.PlayText.{fault_line, out_text, refused_text, told}

-- how far a schedule has come: what has happened, how its transactions are named, of each letter that was ever sent whether it came, the catalogue in force, and those that come later
pub record Stage : Type 0 where
  pub entries : List Entry
  pub cast : Cast
  pub came : List Bool
  pub catalogue : Catalogue
  pub later : List Catalogue

abbrev pub stage_of : {D S : Type 0} → code.Schedule D S → Stage
stage_of schedule = record {
  entries = schedule.world.entries.items;
  cast = schedule.cast;
  came = schedule.came.items;
  catalogue = catalogue_of schedule.world.machines.desk.catalog;
  later = map catalogue_of schedule.world.machines.desk.later.items;
}

-- a run over whole relations and a list of catalogues, whichever of them came into force, has these entries, and leads to these machines
abbrev pub IsReached : Database → Relations → Machines → List Entry → Type 0
IsReached db whole machines entries = (past : _) × IsRun db whole machines entries past

-- how a world is seen: whether its stores gave back what was written, and keep it as stores leave it; its machines, and how often the medium of each store has refused; what has
-- happened in it; its catalogue in force, and whether a database has that one, and those that come later, under their numbers
pub record SeenWorld (W : Type 0) : Type 1 where
  pub is_clean : W → Type 0
  pub is_sound : W → Type 0
  pub machines : W → Machines
  pub refused : W → List ℕ
  pub entries : W → List Entry
  pub catalogue : W → Catalogue
  pub stands : Database → W → Type 0

-- so over stores of these kinds
abbrev pub world_over : {D S : Type 0} → (D → Type 0) → (S → Type 0) → (D → Type 0) → (S → Type 0) → (D → DeskContent) → (S → SiteContent) → (D → ℕ) → (S → ℕ) → SeenWorld (World D S)
world_over desk_is_clean site_is_clean desk_is_sound site_is_sound of_desk of_site desk_refused site_refused = record {
  is_clean = λ world. OfStores desk_is_clean site_is_clean world.machines;
  is_sound = λ world. OfStores desk_is_sound site_is_sound world.machines;
  machines = λ world. held of_desk of_site world.machines;
  refused = λ world. counts desk_refused site_refused world.machines;
  entries = λ world. world.entries.items;
  catalogue = λ world. catalogue_of world.machines.desk.catalog;
  stands = λ db world. StandsIn db world.machines.desk;
}

-- a world, whose stores are sound, has been led to by a run over whole relations and a lawful list of catalogues, and the catalogue in force is the one of its number in the list
pub record HasRun {W : Type 0} (seen : SeenWorld W) (db : Database) (whole : Relations) (world : W) : Type 0 where
  pub listed : IsListed db
  pub sound : seen.is_sound world
  pub stands : seen.stands db world
  pub reached : IsReached db whole (seen.machines world) (seen.entries world)

-- What a call leaves of a world, whatever it answers: stores that are clean now were clean, and where they are a run that had led to it goes on to it, under the catalogue of the number that it has
-- come to; no catalogue is lost: the one in force and those that come after it are what is left of those before
pub record LeavesWorld {W : Type 0} (seen : SeenWorld W) (old new : W) : Type 0 where
  pub clean : seen.is_clean new → seen.is_clean old
  pub runs : (db : Database) (whole : Relations) → seen.is_clean new → HasRun seen db whole old → HasRun seen db whole new
  pub catalogs : EndsIn (seen.catalogue old ∷ map catalogue_of (seen.machines old).later) (seen.catalogue new ∷ map catalogue_of (seen.machines new).later)

-- each letter that was sent is counted
abbrev pub IsCounted : Stage → Type 0
IsCounted stage = length stage.came ≡ length (letters_in stage.entries)

-- letters that were sent just now
abbrev pub unseen : List Letter → List Bool
unseen letters = map (λ letter. false) letters

-- the catalogue in force stays so, where none comes after it
abbrev pub StaysLast : Stage → Stage → Type 0
StaysLast before after = before.later ≡ [] → (after.catalogue ≡ before.catalogue) × (after.later ≡ [])

-- an event has its entry, the last one, and its letters are sent
pub record IsEntered (what : Event) (before after : Stage) : Type 0 where
  pub out : Out
  pub entries : after.entries ≡ before.entries ++ entry_of what out ∷ []
  pub came : after.came ≡ before.came ++ unseen out.letters
  pub cast : after.cast ≡ before.cast
  pub last : StaysLast before after

-- why an event was refused: as one of no letter or no site exactly where it is one; nothing has happened
pub record IsTurnedDown (what : Event) (before after : Stage) (why : Fault) : Type 0 where
  pub unsent : why ≡ fault.Unsent → is_unsent before.catalogue.sites before.entries what ≡ true
  pub nowhere : is_unsent before.catalogue.sites before.entries what ≡ true → why ≡ fault.Unsent
  pub same : after ≡ before

-- an event is entered, or turned down
abbrev pub Steps : Event → Stage → Stage → Option Fault → Type 0
Steps what before after None = IsEntered what before after
Steps what before after (Some why) = IsTurnedDown what before after why

-- An event has happened: it has the next entry, and what it put out is told behind the letters sent before, under the catalogue that is in force after it. Recasts: what it does to the names of
-- transactions.
pub record Happens (Recasts : Out → Cast → Cast → Type 0) (what : Event) (before after : Stage) (text : List ℕ) : Type 0 where
  pub out : Out
  pub entries : after.entries ≡ before.entries ++ entry_of what out ∷ []
  pub came : after.came ≡ before.came ++ unseen out.letters
  pub cast : Recasts out before.cast after.cast
  pub last : StaysLast before after
  pub told : text ≡ out_text (name_of after.cast) after.catalogue (length (letters_in before.entries)) out

-- whom an event concerns: a client and a site, by their names, and what is told where there is no such letter or site
pub record Concerned : Type 0 where
  pub client : List ℕ
  pub site : List ℕ
  pub missing : List ℕ

-- what is told of a refusal
abbrev pub refusal_text : Concerned → Fault → List ℕ
refusal_text concerned (fault.Desk refused) = told concerned.client (refused_text refused)
refusal_text concerned (fault.Site of_site) = fault_line concerned.site of_site
refusal_text concerned fault.Unsent = concerned.missing ++ 10 ∷ []

-- an event was refused, and why is told
pub record IsRefused (concerned : Concerned) (what : Event) (before after : Stage) (text : List ℕ) : Type 0 where
  pub why : Fault
  pub turned_down : IsTurnedDown what before after why
  pub told : text ≡ refusal_text concerned why

-- an event happens, or is refused
abbrev pub Tries : (Out → Cast → Cast → Type 0) → Concerned → Event → Stage → Stage → List ℕ → Type 0
Tries Recasts concerned what before after text = Happens Recasts what before after text ⊎ IsRefused concerned what before after text

-- no name changes
abbrev pub KeepsNames : Out → Cast → Cast → Type 0
KeepsNames out old new = new ≡ old

-- a transaction and its name are put among the others
pub record IsPut (name : List ℕ) (txn : Txn) (old new : Cast) : Type 0 where
  pub txns : new.txns.entries ≡ insert_entry (slice_cmp nat_cmp) old.txns.entries name txn
  pub names : new.names.entries ≡ insert_entry txn_cmp old.names.entries txn name

-- the transaction that is told first has this name from now on
abbrev pub IsNamedFirst : List ℕ → List Notice → Cast → Cast → Type 0
IsNamedFirst name [] old new = new ≡ old
IsNamedFirst name (notice ∷ notices) old new = IsPut name notice.txn old new

abbrev pub Names : List ℕ → Out → Cast → Cast → Type 0
Names name out old new = IsNamedFirst name out.replies old new

-- an event that concerns a client, a site, a letter, and the coordinator alone
abbrev pub of_client : List ℕ → Concerned
of_client name = record { client = name; site = codes "desk"; missing = [] }

abbrev pub of_site : List ℕ → Concerned
of_site name = record { client = codes "desk"; site = name; missing = codes "no site " ++ name }

abbrev pub of_desk : Concerned
of_desk = record { client = codes "desk"; site = codes "desk"; missing = [] }

abbrev pub of_letter : Cast → ℕ → Option Letter → Concerned
of_letter cast number None = record { client = []; site = []; missing = codes "no letter " ++ decimal number }
of_letter cast number (Some letter) = record { client = name_of cast letter.txn; site = letter.site; missing = codes "no letter " ++ decimal number }

-- the call that a client makes
abbrev pub call_of : Txn → Ask → Call
call_of txn ask.Begin = call.Begin
call_of txn (ask.Refragment text) = call.Refragment text
call_of txn (ask.State text) = call.State txn text
call_of txn ask.Commit = call.Commit txn
call_of txn ask.Rollback = call.Rollback txn
call_of txn ask.GiveUp = call.GiveUp txn

-- what a client hears whose transaction was never begun: it may give up in vain
abbrev pub unknown_text : List ℕ → Ask → List ℕ
unknown_text name ask.GiveUp = []
unknown_text name other = told name (refused_text NoTransaction)

-- what a client of this name asks for, where this is its transaction
abbrev pub Calls : List ℕ → Ask → Option Txn → Stage → Stage → List ℕ → Type 0
Calls name asked None before after text = (after ≡ before) × (text ≡ unknown_text name asked)
Calls name asked (Some txn) before after text = Tries KeepsNames (of_client name) (event.Call (call_of txn asked)) before after text

-- a transaction of this name begins by a call
abbrev pub Begins : List ℕ → Call → Stage → Stage → List ℕ → Type 0
Begins name called before after text = Tries (Names name) (of_client name) (event.Call called) before after text

abbrev pub Asks : List ℕ → Ask → Stage → Stage → List ℕ → Type 0
Asks name ask.Begin before after text = Begins name call.Begin before after text
Asks name (ask.Refragment stated) before after text = Begins name (call.Refragment stated) before after text
Asks name asked before after text = Calls name asked (txn_of before.cast name) before after text

-- what happens at a site
abbrev pub event_at : List ℕ → AtSite → Event
event_at name (site.GiveUp ticket) = event.SiteGivesUp name ticket
event_at name site.Inquire = event.SiteInquires name
event_at name site.Restart = event.SiteRestarts name true

abbrev pub HappensAt : List ℕ → AtSite → Stage → Stage → List ℕ → Type 0
HappensAt name doing before after text = Tries KeepsNames (of_site name) (event_at name doing) before after text

abbrev pub RestartsDesk : Stage → Stage → List ℕ → Type 0
RestartsDesk before after text = Tries KeepsNames of_desk (event.DeskRestarts true) before after text
