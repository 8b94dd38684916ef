-- What the program shows of a statement's plan.
use Rattle.std.specs.Prelude.{◌≡◌, ◌≢◌, ◌⊎◌, ℕ, Bool, true, false, List, ◌++◌, Option, Result, Ok, Err, length}
use Rattle.std.specs.Borrow.{Bor}
use Rattle.std.specs.Io.KnownBytes.{Appends, Keeps}
use Rattle.std.specs.List.{flat_map}
use Rattle.meaning.specs.declared.schema.RelationSchema.{RelationSchema}
use Rattle.meaning.specs.declared.statement.Statement.{Statement}
use Rattle.meaning.specs.Statement.{is_refragment}
use Rattle.reader.specs.declared.command.Command.TheVariants.{Run}
use Rattle.reader.specs.declared.fault.Rule.{Rule}
use Rattle.reader.specs.declared.fault.Rule.TheVariants as rules
use Rattle.reader.specs.Command.{IsTextOf}
use Rattle.reader.specs.Fault.{Fault}
use Rattle.catalog.specs.Catalogue.{Catalogue, IsValidCatalogue}
use Rattle.catalog.specs.FragmentLeaf.{schemas_of}
use Rattle.plan.specs.declared.fetch.Fetch.{Fetch}
use Rattle.plan.specs.Stated.{AreFetchesOf}
use Rattle.lines.specs.declared.catalog_file.CatalogFault.{CatalogFault}
use Rattle.lines.specs.declared.catalog_file.CatalogFault.TheVariants as catalog
use Rattle.lines.specs.declared.fault.ProgramFault.TheVariants.{CannotWrite, Memory}
use Rattle.lines.specs.declared.plan_text.PlanFault.{PlanFault}
use Rattle.lines.specs.declared.plan_text.PlanFault.TheVariants as plan
use Rattle.lines.specs.CatalogFile.{IsCatalogueFile, RefusesFile}
pub use Rattle.lines.specs.FetchLine.{count_line, fetch_line, site_text}
use Rattle.lines.specs.PlanTree.{IsPlanTree}
use Rattle.lines.specs.Input.{IsOfInput, IsOfOutput}

-- a line for each fetch, and how many there are
abbrev pub plan_text : Catalogue → List Fetch → List ℕ
plan_text catalogue fetches = flat_map (fetch_line catalogue) fetches ++ count_line (length fetches)

-- the text of the plan of a statement: of exactly the fetches that are stated
pub record IsPlanText (catalogue : Catalogue) (statement : Statement) (text : List ℕ) : Type 0 where
  pub fetches : List Fetch
  pub are : AreFetchesOf catalogue statement fetches
  pub same : text ≡ plan_text catalogue fetches

-- the text of the plan of the statement that another text is one of
pub record IsPlanOf (catalogue : Catalogue) (typed : List ℕ) (text : List ℕ) : Type 0 where
  pub statement : Statement
  pub read : IsTextOf (schemas_of catalogue) typed (Run statement)
  pub planned : IsPlanText catalogue statement text

-- what is shown of the plan of a statement: its fetches, or its tree
abbrev pub IsShownPlan : Bool → Catalogue → Statement → List ℕ → Type 0
IsShownPlan true catalogue statement text = IsPlanTree catalogue statement text
IsShownPlan false catalogue statement text = IsPlanText catalogue statement text

-- a refusal of a text that is none of a statement that has a plan
pub record IsNoStatementOf (schema : List RelationSchema) (text : List ℕ) (fault : Fault) : Type 0 where
  pub is_rule : fault.rule ≢ rules.Memory
  pub none : (statement : Statement) → is_refragment statement ≡ false → ¬ (IsTextOf schema text (Run statement))

-- why a text gives no statement
abbrev pub IsReadFault : List RelationSchema → List ℕ → PlanFault → Type 0
IsReadFault schema text (plan.Program fault) = fault ≡ Memory
IsReadFault schema text (plan.Catalogue fault) = ⊥
IsReadFault schema text (plan.Statement fault) = IsNoStatementOf schema text fault

-- why a file gives no catalogue
abbrev pub IsOpenFault : Bor (List ℕ) → List ℕ → PlanFault → Type 0
IsOpenFault file bytes (plan.Program fault) = IsOfInput file fault
IsOpenFault file bytes (plan.Catalogue fault) = RefusesFile bytes fault.relation fault.rule
IsOpenFault file bytes (plan.Statement fault) = ⊥

-- a fault of a write
abbrev pub IsPlanWriteFault : PlanFault → Type 0
IsPlanWriteFault (plan.Program fault) = IsOfOutput fault
IsPlanWriteFault (plan.Catalogue fault) = ⊥
IsPlanWriteFault (plan.Statement fault) = ⊥

abbrev pub fault_of_catalogue : CatalogFault → PlanFault
fault_of_catalogue (catalog.Program fault) = plan.Program fault
fault_of_catalogue (catalog.Refused fault) = plan.Catalogue fault

-- that memory ran out stops the program, and is no refusal
abbrev pub fault_by_rule : Fault → Rule → PlanFault
fault_by_rule fault rules.Memory = plan.Program Memory
fault_by_rule fault _ = plan.Statement fault

abbrev pub fault_of_reading : Fault → PlanFault
fault_of_reading fault = fault_by_rule fault fault.rule

-- these bytes are of a valid catalogue, the text is one of a statement of its schema, and its plan was written
pub record IsPlanned (as_tree : Bool) (text : List ℕ) (old new : Option (List ℕ)) (bytes : List ℕ) : Type 0 where
  pub catalogue : Catalogue
  pub file : IsCatalogueFile bytes catalogue
  pub valid : IsValidCatalogue catalogue
  pub statement : Statement
  pub read : IsTextOf (schemas_of catalogue) text (Run statement)
  pub shown : List ℕ
  pub planned : IsShownPlan as_tree catalogue statement shown
  pub said : Appends old new shown

-- these bytes are of a valid catalogue, the text is one of no statement of its schema, and nothing was written
pub record IsRefusedStatement (text : List ℕ) (old new : Option (List ℕ)) (bytes : List ℕ) (fault : Fault) : Type 0 where
  pub catalogue : Catalogue
  pub file : IsCatalogueFile bytes catalogue
  pub valid : IsValidCatalogue catalogue
  pub refused : IsNoStatementOf (schemas_of catalogue) text fault
  pub quiet : Keeps old new

-- what the command does with a file of these bytes and the text of a statement
abbrev pub PlansFile : Bool → Bor (List ℕ) → List ℕ → List ℕ → Option (List ℕ) → Option (List ℕ) → Result Unit PlanFault → Type 0
PlansFile as_tree file text bytes old new (Ok done) = IsPlanned as_tree text old new bytes
PlansFile as_tree file text bytes old new (Err (plan.Catalogue fault)) = RefusesFile bytes fault.relation fault.rule × Keeps old new
PlansFile as_tree file text bytes old new (Err (plan.Statement fault)) = IsRefusedStatement text old new bytes fault
PlansFile as_tree file text bytes old new (Err (plan.Program fault)) = IsOfInput file fault ⊎ (fault ≡ CannotWrite)
