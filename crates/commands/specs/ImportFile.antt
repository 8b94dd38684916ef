-- What inserts the rows of a file of comma-separated values.
use Rattle.std.specs.Prelude.{◌≡◌, ◌⊎◌, ℕ, Bool, true, false, List, flat_map, length, map, max, min, Option, None, Some, Result, Ok, Err}
use Rattle.std.specs.Io.KnownBytes.{Appends, Keeps}
use Rattle.terms.specs.declared.value.Value.{Value}
use Rattle.meaning.specs.declared.schema.RelationSchema.{RelationSchema}
use Rattle.meaning.specs.Schema.{relation_named}
use Rattle.catalog.specs.Catalogue.{Catalogue, IsValidCatalogue}
use Rattle.catalog.specs.FragmentLeaf.{schemas_of}
use Rattle.exchange.specs.File.{HasRows}
use Rattle.forms.specs.declared.mode.Mode.TheVariants.{Tabs}
use Rattle.lines.specs.declared.catalog_file.CatalogFault.{CatalogFault}
use Rattle.lines.specs.declared.catalog_file.CatalogFault.TheVariants.{Program, Refused}
use Rattle.lines.specs.CatalogFile.{IsCatalogueFile, RefusesFile}
use Rattle.databases.specs.Client.{Seen}
use Rattle.commands.specs.Import.{IsImport, imported_text}
use Rattle.databases.specs.Origin.{Origin}
use Rattle.lines.specs.Reply.{Told, text_of}
use Rattle.lines.specs.Script.{Reading}
use Rattle.databases.specs.Solo.{IsRun}

-- how many rows a transaction has, of so many in all: as many as are asked for, but one at least, or all where that isn't said
abbrev pub many_of : Option ℕ → ℕ → ℕ
many_of None rows = max rows 1
many_of (Some many) rows = max (min many (max rows 1)) 1

-- seen: how databases are seen that are opened for this; IsOrigin: what they may begin with
module _ {B : Type 0} (seen : Seen B) (IsOrigin : Origin → Type 0) where
  -- an import of these rows was made over a database that was opened for it, one command after another, to its end or until it was cut short; and how many rows are committed was told
  pub record HasInserted (catalogue : Catalogue) (name : List ℕ) (rows : List (List Value)) (many : Option ℕ) (is_cut : Bool) (old new : Option (List ℕ)) : Type 0 where
    pub answers : List (Reading × Told)
    pub count : ℕ
    pub is : IsImport is_cut (many_of many (length rows)) name rows answers count
    pub any_refused : Bool
    pub ran : IsRun seen IsOrigin Tabs catalogue (map (λ one. one.0) answers) (flat_map (λ one. text_of one.1) answers) any_refused
    pub told : Appends old new (imported_text count)

  -- so of all rows of a file, in the order of its lines; rem: what a reader has left
  pub record HasImported {R : Type 0} (rem : R → Option (List ℕ)) (catalogue : Catalogue) (asked : List ℕ) (input : R) (many : Option ℕ) (is_cut : Bool) (old new : Option (List ℕ)) : Type 0 where
    pub relation : RelationSchema
    pub named : relation_named asked (schemas_of catalogue) ≡ Some relation
    pub rows : List (List Value)
    pub has : HasRows rem relation.columns input rows
    pub inserted : HasInserted catalogue relation.name rows many is_cut old new

  -- What comes of it over a catalogue. Something is refused: the relation or a line of the file, and then nothing is written; or a command, and then the import was cut short there.
  abbrev pub ImportsOver : {R : Type 0} (rem : R → Option (List ℕ)) (catalogue : Catalogue) (asked : List ℕ) (input : R) (many : Option ℕ) (old new : Option (List ℕ)) (is_refused : Bool) → Type 0
  ImportsOver rem catalogue asked input many old new false = HasImported rem catalogue asked input many false old new
  ImportsOver rem catalogue asked input many old new true = Keeps old new ⊎ HasImported rem catalogue asked input many true old new

  -- these bytes are of a valid catalogue, over which it was done
  pub record IsImportOf {R : Type 0} (rem : R → Option (List ℕ)) (bytes asked : List ℕ) (input : R) (many : Option ℕ) (old new : Option (List ℕ)) (is_refused : Bool) : Type 0 where
    pub catalogue : Catalogue
    pub text : IsCatalogueFile bytes catalogue
    pub valid : IsValidCatalogue catalogue
    pub imported : ImportsOver rem catalogue asked input many old new is_refused

  -- what comes of it, whether the catalogue is one or not
  abbrev pub ImportsFile : {R : Type 0} → (R → Option (List ℕ)) → List ℕ → List ℕ → R → Option ℕ → Option (List ℕ) → Option (List ℕ) → Result Bool CatalogFault → Type 0
  ImportsFile rem bytes asked input many old new (Ok is_refused) = IsImportOf rem bytes asked input many old new is_refused
  ImportsFile rem bytes asked input many old new (Err (Refused fault)) = RefusesFile bytes fault.relation fault.rule × Keeps old new
  ImportsFile rem bytes asked input many old new (Err (Program fault)) = Unit
