-- What the program does of what the command line asks for.
use Rattle.std.specs.Prelude.{ℕ, Bool, List, Option, Result, Ok, Err}
use Rattle.std.specs.Borrow.{Bor}
use Rattle.std.specs.Io.KnownBytes.{Keeps}
use Rattle.store.specs.declared.fault.StoreFault.{StoreFault}
use Rattle.world.specs.declared.world.World.{World}
use Rattle.forms.specs.declared.mode.Mode.{Mode}
use Rattle.lines.specs.declared.outcome.Outcome.{Outcome}
use Rattle.lines.specs.declared.outcome.Outcome.TheVariants.{Done, Refused, RefusedStatement, Stopped}
use Rattle.lines.specs.declared.usage.Request.{Request}
use Rattle.lines.specs.declared.usage.Request.TheVariants.{Solo, Check, Plan, Play}
use Rattle.lines.specs.Check.{ChecksFile}
use Rattle.lines.specs.declared.catalog_file.CatalogFault.{CatalogFault}
use Rattle.lines.specs.declared.catalog_file.CatalogFault.TheVariants as catalog
use Rattle.lines.specs.declared.plan_text.PlanFault.{PlanFault}
use Rattle.lines.specs.declared.plan_text.PlanFault.TheVariants as plan
use Rattle.databases.specs.declared.catalog_files.ChainFault.{ChainFault}
use Rattle.databases.specs.declared.catalog_files.Source.{Source}
use Rattle.databases.specs.CatalogFiles.{DoesOver, IsUnopened}
use Rattle.databases.specs.Client.{Seen}
use Rattle.databases.specs.Ending.{ComesTo, IsStopped, IsUnread, outcome_of_end, outcome_of_script}
use Rattle.databases.specs.Origin.{Origin}
use Rattle.lines.specs.Plan.{PlansFile}
use Rattle.commands.specs.Play.{PlaysOver}
use Rattle.databases.specs.Schedule.{SeenWorld}
use Rattle.commands.specs.Session.{RunsSession}
use Rattle.databases.specs.Solo.{RunsScript}

-- what the end of a check comes to, and that of a plan
abbrev pub outcome_of_check : Result Unit CatalogFault → Outcome
outcome_of_check (Ok done) = Done
outcome_of_check (Err (catalog.Refused fault)) = Refused fault
outcome_of_check (Err (catalog.Program fault)) = Stopped fault

abbrev pub outcome_of_plan_fault : PlanFault → Outcome
outcome_of_plan_fault (plan.Catalogue fault) = Refused fault
outcome_of_plan_fault (plan.Statement fault) = RefusedStatement fault
outcome_of_plan_fault (plan.Program fault) = Stopped fault

abbrev pub outcome_of_plan : Result Unit PlanFault → Outcome
outcome_of_plan (Ok done) = Done
outcome_of_plan (Err fault) = outcome_of_plan_fault fault

-- a catalogue's outcome
abbrev pub PerformsCheck : Bool → Bor (List ℕ) → List ℕ → Option (List ℕ) → Option (List ℕ) → Outcome → Type 0
PerformsCheck as_tree file bytes old new outcome = ComesTo outcome_of_check (ChecksFile as_tree file bytes old new) outcome

-- a plan's outcome
abbrev pub PerformsPlan : Bool → Bor (List ℕ) → List ℕ → List ℕ → Option (List ℕ) → Option (List ℕ) → Outcome → Type 0
PerformsPlan as_tree file statement bytes old new outcome = ComesTo outcome_of_plan (PlansFile as_tree file statement bytes old new) outcome

-- what is written from old to new, and the outcome, where the file has these bytes; of a script it is told apart
abbrev pub Performs : Request → List ℕ → Option (List ℕ) → Option (List ℕ) → Outcome → Type 0
Performs (Solo name file explain interactive mode sqlite dir) bytes old new outcome = Unit
Performs (Check file explain as_tree) bytes old new outcome = PerformsCheck as_tree file bytes old new outcome
Performs (Plan file statement as_tree) bytes old new outcome = PerformsPlan as_tree file statement.now bytes old new outcome
Performs (Play name file sqlite) bytes old new outcome = Unit

-- the outcome of a script whose first catalogue can't be opened: that is told, and nothing is written
abbrev pub StopsUncatalogued : Request → Bor (List ℕ) → Option (List ℕ) → Option (List ℕ) → Outcome → Type 0
StopsUncatalogued (Solo given file explain interactive mode sqlite dir) name old new outcome = IsUnread name outcome × Keeps old new
StopsUncatalogued (Play given file sqlite) name old new outcome = IsUnread name outcome × Keeps old new
StopsUncatalogued other name old new outcome = Unit

-- the outcome where the file that is asked for can't be opened; a script may be stopped by its catalogues before
abbrev pub StopsUnread : {C : Type 0} → Request → List (Source C) → Outcome → Type 0
StopsUnread (Solo name file explain interactive mode sqlite dir) next outcome = IsStopped next outcome
StopsUnread (Check file explain as_tree) next outcome = IsUnread file outcome
StopsUnread (Plan file statement as_tree) next outcome = IsUnread file outcome
StopsUnread (Play name file sqlite) next outcome = IsStopped next outcome

-- remaining: the bytes that a reader of a catalogue still gives, where they are known
module _ {C : Type 0} (remaining : C → Option (List ℕ)) where
  -- the outcome of a script over the catalogues of files: the first one, of these bytes, and those that come next
  abbrev pub PerformsSolo : {B : Type 0} → Seen B → (Origin → Type 0) → Mode → Bor (List ℕ) → List ℕ → List (Source C) → Bor (List ℕ) → List ℕ → Option (List ℕ) → Option (List ℕ) → Outcome → Type 0
  PerformsSolo seen IsOrigin mode name bytes next file script old new outcome = ComesTo outcome_of_script (DoesOver remaining name bytes next old new (RunsScript seen IsOrigin mode file script old new)) outcome

  -- so of a schedule
  abbrev pub PerformsPlay : {D S : Type 0} → SeenWorld (World D S) → (StoreFault → Type 0) → Bor (List ℕ) → List ℕ → List (Source C) → Bor (List ℕ) → List ℕ → Option (List ℕ) → Option (List ℕ) → Outcome → Type 0
  PerformsPlay worlds Fails name bytes next file script old new outcome = ComesTo outcome_of_end (DoesOver remaining name bytes next old new (PlaysOver worlds Fails file script old new)) outcome

  -- so of a session
  abbrev pub PerformsSession : {B : Type 0} → Seen B → (Origin → Type 0) → Bor (List ℕ) → List ℕ → List (Source C) → Bor (List ℕ) → Option (List ℕ) → Option (List ℕ) → Outcome → Type 0
  PerformsSession seen IsOrigin name bytes next file old new outcome = ComesTo outcome_of_end (DoesOver remaining name bytes next old new (RunsSession seen IsOrigin file old new)) outcome

  -- the outcome where a script can't be opened: the catalogues are no chain, or that is told
  abbrev pub IsIdle : {T : Type 0} → (Result T ChainFault → Outcome) → Bor (List ℕ) → List ℕ → List (Source C) → Bor (List ℕ) → Option (List ℕ) → Option (List ℕ) → Outcome → Type 0
  IsIdle outcome_of name bytes next file old new outcome = ComesTo outcome_of (DoesOver remaining name bytes next old new (λ catalogues. IsUnopened file)) outcome

  -- the outcome of a request of a script, which is run or played over the catalogues of files
  abbrev pub PerformsOver : {B D S : Type 0} → Seen B → (Origin → Type 0) → SeenWorld (World D S) → (StoreFault → Type 0) → Request → Bor (List ℕ) → List ℕ → List (Source C) → List ℕ → Option (List ℕ) → Option (List ℕ) → Outcome → Type 0
  PerformsOver seen IsOrigin worlds Fails (Solo given file explain interactive mode sqlite dir) name bytes next script old new outcome = PerformsSolo seen IsOrigin mode name bytes next file script old new outcome
  PerformsOver seen IsOrigin worlds Fails (Play given file sqlite) name bytes next script old new outcome = PerformsPlay worlds Fails name bytes next file script old new outcome
  PerformsOver seen IsOrigin worlds Fails other name bytes next script old new outcome = Unit

  -- so where its script can't be opened
  abbrev pub StopsIdle : Request → Bor (List ℕ) → List ℕ → List (Source C) → Option (List ℕ) → Option (List ℕ) → Outcome → Type 0
  StopsIdle (Solo given file explain interactive mode sqlite dir) name bytes next old new outcome = IsIdle outcome_of_script name bytes next file old new outcome
  StopsIdle (Play given file sqlite) name bytes next old new outcome = IsIdle outcome_of_end name bytes next file old new outcome
  StopsIdle other name bytes next old new outcome = Unit
