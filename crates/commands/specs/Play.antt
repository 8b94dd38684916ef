-- What the program does of a script of schedules.
use Rattle.std.specs.Prelude.{◌≡◌, ◌⊎◌, ◌≤◌, ◌<◌, ⊤, ℕ, List, [], ◌∷◌, ◌++◌, Option, Result, Ok, Err, length}
use Rattle.std.specs.Borrow.{Bor}
use Rattle.std.specs.Io.KnownBytes.{Appends, Keeps}
use Rattle.meaning.specs.Whole.{Relations}
use Rattle.catalog.specs.Catalogue.{Catalogue}
use Rattle.catalog.specs.FragmentLeaf.{schemas_of}
use Rattle.store.specs.declared.fault.StoreFault.{StoreFault}
use Rattle.desk.specs.CatalogueDatabase.{database, databases}
use Rattle.desk.specs.Database.{Database}
use Rattle.desk.specs.OfCatalogue.{from_number}
use Rattle.world.specs.declared.world.World.{World}
use Rattle.world.specs.Frame.{EndsIn}
use Rattle.world.specs.Runs.{IsSerialRun}
use Rattle.world.specs.Replies.{committed_in}
use Rattle.lines.specs.declared.fault.ProgramFault.{ProgramFault}
use Rattle.lines.specs.declared.fault.ProgramFault.TheVariants.{CannotRead, CannotWrite, Malformed, Memory, ScriptTooLong, Store}
use Rattle.lines.specs.declared.play_items.Placed.{Placed}
use Rattle.lines.specs.declared.play_script.Item.{Item}
use Rattle.lines.specs.declared.play_script.Item.TheVariants as item
use Rattle.databases.specs.declared.catalog_files.ChainFault.{ChainFault}
use Rattle.databases.specs.declared.catalog_files.ChainFault.TheVariants.{Closed, Program, Refused, Unchained}
use Rattle.databases.specs.declared.schedule.Schedule.{Schedule}
use Rattle.lines.specs.Cast.{name_of}
use Rattle.databases.specs.Delivering.{Delivers, DeliversAll}
use Rattle.lines.specs.PlayItems.{items_of}
use Rattle.lines.specs.PlayLoad.{IsLoaded, IsMalformedAt}
use Rattle.databases.specs.Schedule.{Asks, HappensAt, HasRun, IsReached, RestartsDesk, SeenWorld, Stage, stage_of}
use Rattle.lines.specs.Script.{lines_of}
use Rattle.databases.specs.Shown.{IsShownLeaf, IsShownRelation, ShownUnlessRefused, names_text, sight_of}
use Rattle.databases.specs.Solo.{longest}

-- nothing has happened yet
pub record IsOpening (stage : Stage) : Type 0 where
  pub entries : stage.entries ≡ []
  pub txns : stage.cast.txns.entries ≡ []
  pub names : stage.cast.names.entries ≡ []
  pub came : stage.came ≡ []

-- a script that is not malformed: all of it can be read, and what it loads can be loaded
abbrev pub IsSound : Catalogue → List ℕ → Type 0
IsSound catalogue script = (whole : Relations) × IsLoaded (schemas_of catalogue) (items_of (lines_of script)) whole

-- what stops items that are played: memory ran out, nobody reads what is told, or a store failed as the world was opened, before anything was written. Fails: why one may
abbrev pub StopsItems : (StoreFault → Type 0) → Option (List ℕ) → Option (List ℕ) → ProgramFault → Type 0
StopsItems Fails old new Memory = ⊤
StopsItems Fails old new CannotWrite = ⊤
StopsItems Fails old new (Store why) = Fails why × Keeps old new
StopsItems Fails old new (Malformed line) = ⊥
StopsItems Fails old new (CannotRead name) = ⊥
StopsItems Fails old new ScriptTooLong = ⊥

-- what stopped a script, of which all bytes were read: a malformed one before anything was written
abbrev pub StopsPlay : (StoreFault → Type 0) → Catalogue → List ℕ → Option (List ℕ) → Option (List ℕ) → ProgramFault → Type 0
StopsPlay Fails catalogue script old new (Malformed line) = IsMalformedAt (schemas_of catalogue) (items_of (lines_of script)) line × Keeps old new
StopsPlay Fails catalogue script old new Memory = IsSound catalogue script ⊎ Keeps old new
StopsPlay Fails catalogue script old new CannotWrite = IsSound catalogue script
StopsPlay Fails catalogue script old new (Store why) = Fails why × IsSound catalogue script × Keeps old new
StopsPlay Fails catalogue script old new (CannotRead name) = ⊥
StopsPlay Fails catalogue script old new ScriptTooLong = ⊥

-- what stopped the script of this file
abbrev pub StopsPlayOf : (StoreFault → Type 0) → Catalogue → Bor (List ℕ) → List ℕ → Option (List ℕ) → Option (List ℕ) → ProgramFault → Type 0
StopsPlayOf Fails catalogue file script old new (CannotRead name) = (name ≡ file) × Keeps old new
StopsPlayOf Fails catalogue file script old new ScriptTooLong = (longest < length script) × Keeps old new
StopsPlayOf Fails catalogue file script old new (Malformed line) = (length script ≤ longest) × StopsPlay Fails catalogue script old new (Malformed line)
StopsPlayOf Fails catalogue file script old new Memory = StopsPlay Fails catalogue script old new Memory
StopsPlayOf Fails catalogue file script old new (Store why) = (length script ≤ longest) × StopsPlay Fails catalogue script old new (Store why)
StopsPlayOf Fails catalogue file script old new CannotWrite = StopsPlay Fails catalogue script old new CannotWrite

-- a script that is short enough was played to its end, as Played says, or was stopped
abbrev pub EndsOrStops : (StoreFault → Type 0) → Catalogue → List ℕ → Option (List ℕ) → Option (List ℕ) → Type 0 → Result Unit ProgramFault → Type 0
EndsOrStops Fails catalogue script old new Played (Ok done) = Played
EndsOrStops Fails catalogue script old new Played (Err fault) = StopsPlay Fails catalogue script old new fault

-- so was the script of a file
abbrev pub EndsOrStopsOf : (StoreFault → Type 0) → Catalogue → Bor (List ℕ) → List ℕ → Option (List ℕ) → Option (List ℕ) → Type 0 → Result Unit ProgramFault → Type 0
EndsOrStopsOf Fails catalogue file script old new Played (Ok done) = (length script ≤ longest) × Played
EndsOrStopsOf Fails catalogue file script old new Played (Err fault) = StopsPlayOf Fails catalogue file script old new fault

-- seen: how the worlds are seen that are opened for a play
module _ {D S : Type 0} (seen : SeenWorld (World D S)) where
  -- an item of a script that loads these whole relations, over a list of catalogues, and what is told of it; what is loaded stands in the fragments from the beginning, and what is shown changes
  -- nothing. Clean: where it is known what the fragments show
  abbrev pub Plays : Type 0 → Database → Relations → Item → Schedule D S → Schedule D S → List ℕ → Type 0
  Plays Clean db whole (item.Load text) before after told = (after ≡ before) × (told ≡ [])
  Plays Clean db whole (item.Client name asked) before after told = Asks name asked (stage_of before) (stage_of after) told
  Plays Clean db whole (item.Deliver number kept) before after told = Delivers number kept (stage_of before) (stage_of after) told
  Plays Clean db whole (item.All but) before after told = DeliversAll but (stage_of before) (stage_of after) told
  Plays Clean db whole (item.Site name doing) before after told = HappensAt name doing (stage_of before) (stage_of after) told
  Plays Clean db whole item.RestartDesk before after told = RestartsDesk (stage_of before) (stage_of after) told
  Plays Clean db whole (item.Show name) before after told =
      (stage_of after ≡ stage_of before) × (Clean → ShownUnlessRefused (seen.refused before.world) (seen.refused after.world) name (IsShownRelation (sight_of seen db whole before.world) name) told)
  Plays Clean db whole (item.Leaf name) before after told =
      (stage_of after ≡ stage_of before) × (Clean → ShownUnlessRefused (seen.refused before.world) (seen.refused after.world) name (IsShownLeaf (sight_of seen db whole before.world) name) told)
  Plays Clean db whole item.Committed before after told = (after ≡ before) × (told ≡ names_text (name_of before.cast) (committed_in (seen.entries before.world)))

  -- items, one after another, with what is told of all; after each the catalogue in force is the one of its number in the list
  abbrev pub PlaysAll : Type 0 → Database → Relations → List Placed → Schedule D S → Schedule D S → List ℕ → Type 0
  PlaysAll Clean db whole [] before after told = (after ≡ before) × (told ≡ [])
  PlaysAll Clean db whole (placed ∷ rest) before after told =
      (middle : Schedule D S) × (first : List ℕ) × (others : List ℕ) × Plays Clean db whole placed.item before middle first × (Clean → seen.stands db middle.world) × PlaysAll Clean db whole rest middle after others × (told ≡ first ++ others)

  -- whatever whole relations and list of catalogues a run began over, an item is played, and what is shown is known where that run had led to the world before and its stores are clean afterwards
  abbrev pub PlaysItem : Item → Schedule D S → Schedule D S → List ℕ → Type 0
  PlaysItem one before after told = (db : Database) (whole : Relations) → Plays (seen.is_clean after.world × HasRun seen db whole before.world) db whole one before after told

  -- so are items, one after another, and all that is told of them is written
  pub record PlaysItems (items : List Placed) (old new : Option (List ℕ)) (before after : Schedule D S) : Type 0 where
    pub told : List ℕ
    pub said : Appends old new told
    pub plays : (db : Database) (whole : Relations) → PlaysAll (seen.is_clean after.world × HasRun seen db whole before.world) db whole items before after told

  -- So it was over this catalogue, after which none comes: it was in force all the time. Where the stores of the world at the end are clean, what happened are the entries of a run over these whole
  -- relations and the catalogue alone, under whatever number, and its committed transactions ran as if one after another.
  pub record IsPlayedAlone (catalogue : Catalogue) (whole : Relations) (items : List Placed) (opening ended : Schedule D S) (told : List ℕ) : Type 0 where
    pub catalog : (stage_of opening).catalogue ≡ catalogue
    pub last : (stage_of opening).later ≡ []
    pub plays : PlaysAll (seen.is_clean ended.world) (database catalogue) whole items opening ended told
    pub run : seen.is_clean ended.world → IsReached (database catalogue) whole (seen.machines ended.world) (seen.entries ended.world)
    pub serial : seen.is_clean ended.world → IsSerialRun (database catalogue) whole (seen.machines ended.world) (seen.entries ended.world)

  -- Items were played to their end over a world of a chain of catalogues in which nothing had happened, and all that is told of them was written. Those from one of the catalogues on were in force and came
  -- later. Where the stores of the world at the end are clean, what happened are the entries of a run over these whole relations and the list of the catalogues, whichever came into force, under the one of
  -- whose number the world ends, its committed transactions ran as if one after another, and all catalogues behind that one come later.
  pub record IsPlayedOver (first : Catalogue) (rest : List Catalogue) (whole : Relations) (items : List Placed) (old new : Option (List ℕ)) : Type 0 where
    pub opening : Schedule D S
    pub opens : IsOpening (stage_of opening)
    pub number : ℕ
    pub catalogs : (stage_of opening).catalogue ∷ (stage_of opening).later ≡ from_number number (first ∷ rest)
    pub ended : Schedule D S
    pub left : EndsIn ((stage_of opening).catalogue ∷ (stage_of opening).later) ((stage_of ended).catalogue ∷ (stage_of ended).later)
    pub told : List ℕ
    pub plays : PlaysAll (seen.is_clean ended.world) (databases first rest) whole items opening ended told
    pub stands : seen.is_clean ended.world → seen.stands (databases first rest) ended.world
    pub run : seen.is_clean ended.world → IsReached (databases first rest) whole (seen.machines ended.world) (seen.entries ended.world)
    pub serial : seen.is_clean ended.world → IsSerialRun (databases first rest) whole (seen.machines ended.world) (seen.entries ended.world)
    pub alone : rest ≡ [] → IsPlayedAlone first whole items opening ended told
    pub said : Appends old new told

  -- a script was played to its end over what it loads, and all that is told of its items was written; the catalogues of the chain have the same relations
  pub record IsPlayed (first : Catalogue) (rest : List Catalogue) (script : List ℕ) (old new : Option (List ℕ)) : Type 0 where
    pub sound : IsSound first script
    pub played : IsPlayedOver first rest sound.0 (items_of (lines_of script)).0 old new

-- Fails: why a store may fail as such a world is opened
module _ {D S : Type 0} (seen : SeenWorld (World D S)) (Fails : StoreFault → Type 0) where
  -- a script that is short enough was played to its end over a chain of catalogues, or was stopped
  abbrev pub PlaysOrStops : Catalogue → List Catalogue → List ℕ → Option (List ℕ) → Option (List ℕ) → Result Unit ProgramFault → Type 0
  PlaysOrStops first rest script old new result = EndsOrStops Fails first script old new (IsPlayed seen first rest script old new) result

  -- the script of a file was played to its end, or was stopped
  abbrev pub PlaysScript : Catalogue → List Catalogue → Bor (List ℕ) → List ℕ → Option (List ℕ) → Option (List ℕ) → Result Unit ProgramFault → Type 0
  PlaysScript first rest file script old new result = EndsOrStopsOf Fails first file script old new (IsPlayed seen first rest script old new) result

  -- so over these catalogues, which are a chain
  abbrev pub PlaysOver : Bor (List ℕ) → List ℕ → Option (List ℕ) → Option (List ℕ) → List Catalogue → Result Unit ChainFault → Type 0
  PlaysOver file script old new catalogues (Ok done) = (first : Catalogue) (rest : List Catalogue) → catalogues ≡ first ∷ rest → PlaysScript first rest file script old new (Ok done)
  PlaysOver file script old new catalogues (Err (Program fault)) = (first : Catalogue) (rest : List Catalogue) → catalogues ≡ first ∷ rest → PlaysScript first rest file script old new (Err fault)
  PlaysOver file script old new catalogues (Err (Refused fault)) = ⊥
  PlaysOver file script old new catalogues (Err Unchained) = ⊥
  PlaysOver file script old new catalogues (Err Closed) = ⊥
