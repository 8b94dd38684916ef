-- What sessions at once come to: what each hears, whether it was one run of the protocol, and what the relations are then. Of several catalogues another one may come into force.
use Rattle.std.specs.Prelude.{◌≡◌, ⊤, ◌≤◌, ◌<◌, ◌⊎◌, ℕ, Bool, true, false, List, ◌∷◌, ◌++◌, Option, Some, None, Result, Ok, Err, flat_map, is_none, length, map, string_bytes}
use Rattle.std.specs.Borrow.{Bor}
use Rattle.std.specs.Io.KnownBytes.{Appends, Keeps}
use Rattle.std.specs.List.{AllByRecursion}
use Rattle.terms.specs.declared.value.Value.{Value}
use Rattle.meaning.specs.declared.schema.RelationSchema.{RelationSchema}
use Rattle.meaning.specs.Whole.{Relations}
use Rattle.catalog.specs.declared.relation.SplitRelation.{SplitRelation}
use Rattle.catalog.specs.Catalogue.{Catalogue}
use Rattle.catalog.specs.FragmentLeaf.{schemas_of}
use Rattle.catalog.specs.Relation.{catalogue_of}
use Rattle.store.specs.declared.commit.DeskKept.{DeskKept}
use Rattle.store.specs.DeskContent.{DeskContent}
use Rattle.store.specs.SiteContent.{SiteContent}
use Rattle.protocol.specs.Desk.{Deed}
use Rattle.protocol.specs.Parts.{In}
use Rattle.desk.specs.CatalogueDatabase.{database, databases}
use Rattle.desk.specs.Database.{Database, language}
use Rattle.desk.specs.OfCatalogue.{from_number}
use Rattle.world.specs.declared.event.Entry as world
use Rattle.world.specs.declared.event.Event.{Event}
use Rattle.world.specs.declared.machines.Machines as code
use Rattle.world.specs.Contents.{OfStores, held}
use Rattle.world.specs.Frame.{StaysAsItIs}
use Rattle.world.specs.Listed.{IsListed, StandsIn}
use Rattle.world.specs.Runs.{IsRun}
use Rattle.world.specs.Settled.{ShowsSerial}
use Rattle.history.specs.declared.entry.Entry.{Entry}
use Rattle.history.specs.declared.records.Past.{Past}
use Rattle.history.specs.declared.told.Told.{Told}
use Rattle.history.specs.declared.weave.WeaveFault as faults
use Rattle.history.specs.declared.weave.WeaveFault.TheVariants as why
use Rattle.history.specs.Catalogues.{IsOfCatalogues}
use Rattle.history.specs.DeskHistory.{desk_from}
use Rattle.history.specs.Records.{AreRecords, pasts_in}
use Rattle.history.specs.Told.{IsNotTold}
use Rattle.history.specs.Weaving.{Rebuilds}
use Rattle.history.specs.Woven.{IsNotARun, IsSettled, IsWoven, WeavesRun}
use Rattle.wire.specs.declared.fault.CallFault.{CallFault}
use Rattle.wire.specs.declared.fault.CallFault.TheVariants as call
use Rattle.forms.specs.declared.mode.Mode.TheVariants.{Tabs}
use Rattle.databases.specs.declared.catalog_files.ChainFault.{ChainFault}
use Rattle.databases.specs.declared.catalog_files.ChainFault.TheVariants.{Closed, Program, Refused, Unchained}
use Rattle.runs.specs.declared.conversation.Conversation.{Conversation}
use Rattle.lines.specs.declared.fault.ProgramFault.TheVariants.{CannotRead, CannotWrite, Malformed, Memory, ScriptTooLong, Store}
use Rattle.lines.specs.declared.outcome.Outcome.{Outcome}
use Rattle.lines.specs.declared.outcome.Outcome.TheVariants.{Done, SomeRefused}
use Rattle.databases.specs.CatalogFiles.{AreSeveral}
use Rattle.databases.specs.Client.{IsOfClient}
use Rattle.runs.specs.Conversations.{AreOfParts}
use Rattle.lines.specs.RunScript.{SessionPart, first_malformed, sessions_of}
use Rattle.databases.specs.Ending.{outcome_of_fault}
use Rattle.runs.specs.RunText.{verdict_text}
use Rattle.lines.specs.Script.{lines_of}
use Rattle.databases.specs.Shown.{relation_text}
use Rattle.databases.specs.Solo.{longest}

-- the fault of a session's call that ends a script
abbrev pub fault_of_call : CallFault → ChainFault
fault_of_call call.Memory = Program Memory
fault_of_call (call.Store why) = Program (Store why)
fault_of_call other = Closed

-- a relation, and the rows that were found of it
pub record Found : Type 0 where
  pub name : List ℕ
  pub rows : Option (List (List Value))

-- its name in a line, and its rows
abbrev pub relation_lines : Catalogue → Found → List ℕ
relation_lines catalogue found = found.name ++ 10 ∷ relation_text Tabs catalogue found.name found.rows

-- what sessions were told
abbrev pub lists_told : List Conversation → List (List Told)
lists_told held = map (λ (one : Conversation). one.told.items) held

-- the rows of relations are what the committed transactions make of these whole relations, one after another
abbrev pub ShowSerial : Database → Relations → List world.Entry → List Found → Type 0
ShowSerial db whole happened shown = AllByRecursion (λ (found : Found). ShowsSerial db whole happened found.name found.rows) shown

module _ {D S : Type 0} (desk_is_clean desk_is_sound : D → Type 0) (desk_content : D → DeskContent) (site_is_clean site_is_sound : S → Type 0) (site_content : S → SiteContent) where
  -- relations were shown, by machines that stand after a run: what was found is told, and nothing that the stores keep has changed
  pub record ShowsFound (names : List (List ℕ)) (old new : code.Machines D S) (shown : List Found) : Type 0 where
    pub names_are : map (λ (found : Found). found.name) shown ≡ names
    pub clean : OfStores desk_is_clean site_is_clean new → OfStores desk_is_clean site_is_clean old
    pub sound : OfStores desk_is_clean site_is_clean new → OfStores desk_is_sound site_is_sound old → OfStores desk_is_sound site_is_sound new
    pub same : StaysAsItIs (OfStores desk_is_clean site_is_clean) (OfStores desk_is_sound site_is_sound) (held desk_content site_content) old new
    pub catalog : new.desk.catalog ≡ old.desk.catalog
    pub later : new.desk.later.items ≡ old.desk.later.items
    pub serial : (db : Database) (whole : Relations) (happened : List world.Entry) (past : List (Deed (language db))) → IsListed db → StandsIn db old.desk → OfStores desk_is_clean site_is_clean new → OfStores desk_is_sound site_is_sound old
        → IsRun db whole (held desk_content site_content old) happened past → ShowSerial db whole happened shown

  -- what is printed of them
  pub record Prints (catalogue : Catalogue) (names : List (List ℕ)) (old new : code.Machines D S) (before after : List ℕ) : Type 0 where
    pub shown : List Found
    pub found : ShowsFound names old new shown
    pub printed : after ≡ before ++ flat_map (relation_lines catalogue) shown

  -- The histories are one run of the protocol over a list of catalogues, in which stands all that the sessions were told. Over whatever whole relations the fragments rebuilt at the opening, the committed
  -- transactions, one after another, give the answers that were heard, and the rows that are shown.
  pub record IsOneRun (db : Database) (machines : code.Machines D S) (opening : DeskKept) (entries : List Entry) (pasts : List Past) (lists : List (List Told)) (shown : List Found) : Type 0 where
    pub events : List Event
    pub weaves : WeavesRun db opening entries (desk_from desk_content machines.desk) (pasts_in site_content machines.sites.items pasts) machines.desk.later.items lists events
    pub shows : (whole : Relations) → Rebuilds db opening.version whole (pasts_in site_content machines.sites.items pasts) → ShowSerial db whole weaves.woven.happened shown

  -- why histories aren't woven
  abbrev pub IsUnwoven : code.Machines D S → DeskKept → List Entry → List Past → List (List Told) → faults.WeaveFault → Type 0
  IsUnwoven machines opening entries pasts lists (why.NotARun k) = IsNotARun machines.desk.catalog.0 (entries ∷ map (λ (past : Past). past.entries.items) pasts) k
  IsUnwoven machines opening entries pasts lists why.NotSettled = IsSettled opening (map (λ (past : Past). past.opening) pasts) → ⊥
  IsUnwoven machines opening entries pasts lists why.Memory = ⊥
  IsUnwoven machines opening entries pasts lists (why.NotTold k) = IsNotTold (schemas_of (catalogue_of machines.desk.catalog)) entries lists k

  -- Histories without a fault were woven by their numbers, and in them stands all that the sessions were told. Where the stores are clean they are one run of the protocol, over each
  -- lawful list that has the catalogues of the opening from its number on.
  pub record AreWoven (machines : code.Machines D S) (catalogs : List (List (List ℕ) × List SplitRelation)) (opening : DeskKept) (entries : List Entry) (pasts : List Past) (lists : List (List Told)) : Type 0 where
    pub events : List Event
    pub woven : IsWoven (database (catalogue_of machines.desk.catalog)) entries (map (λ (past : Past). past.entries.items) pasts) lists events
    pub run : (db : Database) → IsListed db → IsOfCatalogues db opening.version (map catalogue_of catalogs) → OfStores desk_is_clean site_is_clean machines
        → WeavesRun db opening entries (desk_from desk_content machines.desk) (pasts_in site_content machines.sites.items pasts) machines.desk.later.items lists events

  -- a verdict on records that replay: histories without a fault are woven, and a fault has its reason
  abbrev pub IsVerdict : code.Machines D S → List (List (List ℕ) × List SplitRelation) → DeskKept → List Entry → List Past → List (List Told) → Option faults.WeaveFault → Type 0
  IsVerdict machines catalogs opening entries pasts lists None = AreWoven machines catalogs opening entries pasts lists
  IsVerdict machines catalogs opening entries pasts lists (Some fault) = IsUnwoven machines opening entries pasts lists fault

  -- Sessions at once have come to their ends over these catalogues, one of which is in force at the end: each held its conversation, and the machines' histories, which replay, were judged by what all
  -- sessions were told. All conversations are printed, the verdict, and each relation with its rows. A verdict without a fault says that it was one run of the protocol over the list of catalogues, where
  -- the stores are clean, and the relations that are shown are what its committed transactions make, where they are clean after that too.
  pub record HasRun (catalogues : List Catalogue) (parts : List SessionPart) (printed : List ℕ) (is_woven : Bool) : Type 0 where
    pub conversations : List Conversation
    pub of_parts : AreOfParts parts conversations
    pub machines : code.Machines D S
    pub catalogs : List (List (List ℕ) × List SplitRelation)
    pub opening : DeskKept
    pub entries : List Entry
    pub pasts : List Past
    pub records : AreRecords desk_is_clean desk_is_sound desk_content site_is_clean site_is_sound site_content machines catalogs opening entries pasts
    pub catalog : In (catalogue_of machines.desk.catalog) catalogues
    pub given : map catalogue_of catalogs ≡ from_number opening.version catalogues
    pub verdict : Option faults.WeaveFault
    pub judged : IsVerdict machines catalogs opening entries pasts (lists_told conversations) verdict
    pub told : is_woven ≡ is_none verdict
    pub one_run : (first : Catalogue) (rest : List Catalogue) → catalogues ≡ first ∷ rest → verdict ≡ None → OfStores desk_is_clean site_is_clean machines
        → (events : List Event) × WeavesRun (databases first rest) opening entries (desk_from desk_content machines.desk) (pasts_in site_content machines.sites.items pasts) machines.desk.later.items (lists_told conversations) events
    pub ended : code.Machines D S
    pub shown : List Found
    pub found : ShowsFound (map (λ (relation : RelationSchema). relation.name) (schemas_of (catalogue_of machines.desk.catalog))) machines ended shown
    pub serial : (first : Catalogue) (rest : List Catalogue) → catalogues ≡ first ∷ rest → verdict ≡ None → OfStores desk_is_clean site_is_clean ended
        → IsOneRun (databases first rest) machines opening entries pasts (lists_told conversations) shown
    pub printed_is : printed ≡ flat_map (λ (one : Conversation). string_bytes one.printed) conversations ++ verdict_text verdict ++ flat_map (relation_lines (catalogue_of machines.desk.catalog)) shown

-- a script that is short enough, each line of which can be read
pub record IsAccepted (script : List ℕ) : Type 0 where
  pub short : length script ≤ longest
  pub readable : first_malformed (lines_of script) ≡ None

-- what stops sessions over these catalogues before anything is printed: of several the coordinator's store may keep the number of none
abbrev pub StopsRun : List Catalogue → ChainFault → Type 0
StopsRun catalogues (Program fault) = IsOfClient fault
StopsRun catalogues Closed = ⊤
StopsRun catalogues Unchained = AreSeveral catalogues
StopsRun catalogues (Refused fault) = ⊥

-- what stops sessions that may run: memory ran out, a store failed, nobody reads what is printed, all of which is written at the end, or a machine can't be had back
abbrev pub StopsSessions : List Catalogue → Option (List ℕ) → Option (List ℕ) → ChainFault → Type 0
StopsSessions catalogues old new (Program Memory) = ⊤
StopsSessions catalogues old new (Program (Store why)) = Keeps old new
StopsSessions catalogues old new (Program CannotWrite) = ⊤
StopsSessions catalogues old new (Program other) = ⊥
StopsSessions catalogues old new Closed = Keeps old new
StopsSessions catalogues old new Unchained = AreSeveral catalogues × Keeps old new
StopsSessions catalogues old new (Refused fault) = ⊥

-- what stopped the script of this file
abbrev pub StopsScript : List Catalogue → Bor (List ℕ) → List ℕ → Option (List ℕ) → Option (List ℕ) → ChainFault → Type 0
StopsScript catalogues file script old new (Program (CannotRead name)) = (name ≡ file) × Keeps old new
StopsScript catalogues file script old new (Program ScriptTooLong) = (longest < length script) × Keeps old new
StopsScript catalogues file script old new (Program (Malformed line)) = (length script ≤ longest) × (first_malformed (lines_of script) ≡ Some line) × Keeps old new
StopsScript catalogues file script old new (Program Memory) = IsAccepted script ⊎ Keeps old new
StopsScript catalogues file script old new (Program (Store why)) = IsAccepted script × Keeps old new
StopsScript catalogues file script old new (Program CannotWrite) = IsAccepted script
StopsScript catalogues file script old new Closed = IsAccepted script × Keeps old new
StopsScript catalogues file script old new Unchained = AreSeveral catalogues × IsAccepted script × Keeps old new
StopsScript catalogues file script old new (Refused fault) = ⊥

-- what sessions came to, as an outcome; a verdict that says no counts as a refusal
abbrev pub outcome_of : Result Bool ChainFault → Outcome
outcome_of (Ok true) = Done
outcome_of (Ok false) = SomeRefused
outcome_of (Err fault) = outcome_of_fault fault

module _ {D S : Type 0} (desk_is_clean desk_is_sound : D → Type 0) (desk_content : D → DeskContent) (site_is_clean site_is_sound : S → Type 0) (site_content : S → SiteContent) where
  -- what was printed was written
  pub record HasWritten (catalogues : List Catalogue) (parts : List SessionPart) (old new : Option (List ℕ)) (is_woven : Bool) : Type 0 where
    pub printed : List ℕ
    pub run : HasRun desk_is_clean desk_is_sound desk_content site_is_clean site_is_sound site_content catalogues parts printed is_woven
    pub written : Appends old new printed

  -- the script of a file ran to its end, or was stopped
  abbrev pub RunsScript : Bor (List ℕ) → List ℕ → Option (List ℕ) → Option (List ℕ) → List Catalogue → Result Bool ChainFault → Type 0
  RunsScript file script old new catalogues (Ok is_woven) = IsAccepted script × HasWritten catalogues (sessions_of (lines_of script)) old new is_woven
  RunsScript file script old new catalogues (Err fault) = StopsScript catalogues file script old new fault
