-- What writes a whole database as statements.
use Rattle.std.specs.Prelude.{◌≡◌, ◌⊎◌, ℕ, Bool, false, List, [], ◌∷◌, map, Option, Some, None, is_none, Result, Ok, Err}
use Rattle.std.specs.Borrow.{Bor}
use Rattle.std.specs.Io.KnownBytes.{Appends, Keeps}
use Rattle.meaning.specs.declared.schema.RelationSchema.{RelationSchema}
use Rattle.meaning.specs.Schema.{relation_named}
use Rattle.catalog.specs.Catalogue.{Catalogue, IsValidCatalogue}
use Rattle.catalog.specs.FragmentLeaf.{schemas_of}
use Rattle.forms.specs.declared.mode.Mode.{Mode}
use Rattle.forms.specs.declared.mode.Mode.TheVariants.{Columns, Csv, Json, Tabs}
use Rattle.lines.specs.declared.catalog_file.CatalogFault.{CatalogFault}
use Rattle.lines.specs.declared.catalog_file.CatalogFault.TheVariants.{Program, Refused}
use Rattle.lines.specs.CatalogFile.{IsCatalogueFile, RefusesFile}
use Rattle.databases.specs.Client.{Seen}
use Rattle.lines.specs.Input.{IsOfInput}
use Rattle.databases.specs.Origin.{Origin}
use Rattle.lines.specs.Script.{DumpsRelation, Reading, ShowsRelation}
use Rattle.databases.specs.Solo.{IsOfRun, IsRun}

-- a relation is written as statements, unless its rows are to be shown in a way
abbrev pub task_in : Mode → List ℕ → Reading
task_in Tabs name = DumpsRelation name
task_in Columns name = ShowsRelation name
task_in Csv name = ShowsRelation name
task_in Json name = ShowsRelation name

-- the relation of this name is written, or each of these as statements where none is named
abbrev pub tasks_asked : Mode → Option (List ℕ) → List (List ℕ) → List Reading
tasks_asked mode None names = map DumpsRelation names
tasks_asked mode (Some name) names = task_in mode name ∷ []

-- so of a catalogue's relations, in its order
abbrev pub dumps_asked : Mode → Option (List ℕ) → Catalogue → List Reading
dumps_asked mode asked catalogue = tasks_asked mode asked (map (λ relation. relation.name) (schemas_of catalogue))

abbrev pub dumps_of : Catalogue → List Reading
dumps_of catalogue = dumps_asked Tabs None catalogue

-- whether there is no relation of the name that is asked for
abbrev pub is_missing : Option (List ℕ) → List RelationSchema → Bool
is_missing None relations = false
is_missing (Some name) relations = is_none (relation_named name relations)

-- seen: how databases are seen that are opened for this; IsOrigin: what they may begin with
module _ {B : Type 0} (seen : Seen B) (IsOrigin : Origin → Type 0) where
  -- what is asked for of a database that was opened for it was written, and nothing else
  pub record HasDumped (mode : Mode) (asked : Option (List ℕ)) (catalogue : Catalogue) (old new : Option (List ℕ)) (missing : Bool) : Type 0 where
    pub written : List ℕ
    pub told : Appends old new written
    pub any_refused : Bool
    pub ran : IsRun seen IsOrigin mode catalogue (dumps_asked mode asked catalogue) written any_refused
    pub lacks : missing ≡ is_missing asked (schemas_of catalogue)

  -- these bytes are of a valid catalogue, and what is asked for was written
  pub record IsDumpOf (mode : Mode) (asked : Option (List ℕ)) (bytes : List ℕ) (old new : Option (List ℕ)) (missing : Bool) : Type 0 where
    pub catalogue : Catalogue
    pub text : IsCatalogueFile bytes catalogue
    pub valid : IsValidCatalogue catalogue
    pub dumped : HasDumped mode asked catalogue old new missing

  -- What is asked for over a catalogue of these bytes. The catalogue is looked at first, and where it is none nothing is written.
  abbrev pub DumpsFile : Mode → Option (List ℕ) → Bor (List ℕ) → List ℕ → Option (List ℕ) → Option (List ℕ) → Result Bool CatalogFault → Type 0
  DumpsFile mode asked catalog bytes old new (Ok missing) = IsDumpOf mode asked bytes old new missing
  DumpsFile mode asked catalog bytes old new (Err (Refused fault)) = RefusesFile bytes fault.relation fault.rule × Keeps old new
  DumpsFile mode asked catalog bytes old new (Err (Program fault)) = (IsOfInput catalog fault × Keeps old new) ⊎ IsOfRun fault
