-- What the program says of a catalogue.
use Rattle.std.specs.Prelude.{◌≡◌, ◌⊎◌, ℕ, Bool, if◌then◌else◌, List, [], ◌∷◌, ◌++◌, Option, Result, Ok, Err, codes, length}
use Rattle.std.specs.Borrow.{Bor}
use Rattle.std.specs.Fmt.{decimal}
use Rattle.std.specs.Io.KnownBytes.{Appends, Keeps}
use Rattle.std.specs.List.{flat_map}
use Rattle.terms.specs.Leaf.{leaf_text}
use Rattle.meaning.specs.declared.schema.RelationSchema.{RelationSchema}
use Rattle.reader.specs.PrintStatement.{separated_bytes}
use Rattle.reader.specs.Written.{name_in}
use Rattle.catalog.specs.declared.fragment_leaf.FragmentLeaf.{FragmentLeaf}
use Rattle.catalog.specs.Catalogue.{Catalogue, IsValidCatalogue}
use Rattle.catalog.specs.FragmentLeaf.{catalogue_leaves, schemas_of}
use Rattle.lines.specs.declared.catalog_file.CatalogFault.{CatalogFault}
use Rattle.lines.specs.declared.catalog_file.CatalogFault.TheVariants.{Program, Refused}
use Rattle.lines.specs.declared.fault.ProgramFault.TheVariants.{CannotWrite}
use Rattle.lines.specs.CatalogFile.{IsCatalogueFile, IsFileOfNoneValid, RefusesFile}
use Rattle.lines.specs.Input.{IsOfInput, IsOfOutput}
pub use Rattle.lines.specs.Columns.{columns_of, names_of_columns, where_text}
use Rattle.lines.specs.FragmentTree.{trees_text}

-- what is said of a leaf of which the relation has columns of these names: the leaf's name, its site, its columns and its conditions
abbrev pub leaf_over : List (List ℕ) → List (List ℕ) → FragmentLeaf → List ℕ
leaf_over sites names leaf =
    leaf_text leaf.name ++ 32 ∷ name_in sites leaf.site
    ++ codes " (" ++ separated_bytes (name_in names) (codes ", ") leaf.columns ++ codes ")"
    ++ where_text names leaf.conds

-- the same of a leaf of these relations
abbrev pub leaf_told : List (List ℕ) → List RelationSchema → FragmentLeaf → List ℕ
leaf_told sites relations leaf = leaf_over sites (names_of_columns (columns_of relations leaf.name.relation)) leaf

-- in a line of its own
abbrev pub leaf_line : List (List ℕ) → List RelationSchema → FragmentLeaf → List ℕ
leaf_line sites relations leaf = leaf_told sites relations leaf ++ 10 ∷ []

-- how much a catalogue has
abbrev pub counts_text : ℕ → ℕ → ℕ → List ℕ
counts_text sites relations leaves =
    codes "accepted " ++ decimal sites ++ codes " sites " ++ decimal relations ++ codes " relations " ++ decimal leaves ++ codes " fragments" ++ 10 ∷ []

abbrev pub accepted_line : Catalogue → List ℕ
accepted_line catalogue = counts_text (length catalogue.sites) (length catalogue.relations) (length (catalogue_leaves catalogue))

-- a line for each leaf of a catalogue
abbrev pub leaf_lines : Catalogue → List ℕ
leaf_lines catalogue = flat_map (leaf_line catalogue.sites (schemas_of catalogue)) (catalogue_leaves catalogue)

-- what is said of a catalogue: how much it has, and its leaves, or its trees
abbrev pub check_text : Bool → Catalogue → List ℕ
check_text as_tree catalogue = accepted_line catalogue ++ (if as_tree then trees_text catalogue else leaf_lines catalogue)

-- these bytes are of a valid catalogue, of which all was said on this output
pub record IsChecked (as_tree : Bool) (old new : Option (List ℕ)) (bytes : List ℕ) : Type 0 where
  pub catalogue : Catalogue
  pub file : IsCatalogueFile bytes catalogue
  pub valid : IsValidCatalogue catalogue
  pub said : Appends old new (check_text as_tree catalogue)

-- a fault of a write: memory ran out, or nobody reads
abbrev pub IsWriteFault : CatalogFault → Type 0
IsWriteFault (Program fault) = IsOfOutput fault
IsWriteFault (Refused fault) = ⊥

-- the check of a file of these bytes: all is said of it, or it is refused and nothing is said, or something stopped the check
abbrev pub ChecksFile : Bool → Bor (List ℕ) → List ℕ → Option (List ℕ) → Option (List ℕ) → Result Unit CatalogFault → Type 0
ChecksFile as_tree file bytes old new (Ok done) = IsChecked as_tree old new bytes
ChecksFile as_tree file bytes old new (Err (Refused fault)) = RefusesFile bytes fault.relation fault.rule × Keeps old new
ChecksFile as_tree file bytes old new (Err (Program fault)) = (IsOfInput file fault ⊎ (fault ≡ CannotWrite)) × (IsFileOfNoneValid bytes → Keeps old new)
