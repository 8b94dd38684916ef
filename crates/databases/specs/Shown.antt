-- What is shown of a schedule: relations, leaves and committed transactions.
use Rattle.std.specs.Prelude.{◌≡◌, ◌⊎◌, ◌==◌, ℕ, true, List, [], ◌∷◌, ◌++◌, IfOk, Option, Some, None, Result, if◌then◌else◌, bytes_eq, codes, length}
use Rattle.std.specs.Fmt.{decimal}
use Rattle.std.specs.List.{flat_map}
use Rattle.terms.specs.declared.leaf.Leaf.{Leaf}
use Rattle.terms.specs.declared.value.Value.{Value}
use Rattle.terms.specs.Leaf.{leaf_text}
use Rattle.meaning.specs.declared.answer.Answer.TheVariants.{Rows}
use Rattle.meaning.specs.declared.schema.RelationSchema.{RelationSchema}
use Rattle.meaning.specs.Schema.{relation_named}
use Rattle.meaning.specs.Whole.{Relations}
use Rattle.exchange.specs.Dump.{dump_bytes}
use Rattle.catalog.specs.declared.fragment_leaf.FragmentLeaf.{FragmentLeaf}
use Rattle.catalog.specs.Catalogue.{Catalogue}
use Rattle.catalog.specs.FragmentLeaf.{catalogue_leaves, leaf_named, schemas_of}
use Rattle.store.specs.declared.name.Txn.{Txn}
use Rattle.world.specs.declared.event.Entry.{Entry}
use Rattle.world.specs.declared.fault.Fault.{Fault}
use Rattle.desk.specs.Database.{Database}
use Rattle.world.specs.Counted.{HaveRefused}
use Rattle.world.specs.Fault.{is_of_medium}
use Rattle.world.specs.Machines.{Machines}
use Rattle.world.specs.Settled.{ShowsSerial, parts_kept}
use Rattle.forms.specs.declared.mode.Mode.{Mode}
use Rattle.forms.specs.declared.mode.Mode.TheVariants.{Tabs}
use Rattle.forms.specs.Mode.{answer_in, line_in}
use Rattle.lines.specs.Check.{columns_of, leaf_told, names_of_columns}
use Rattle.databases.specs.PlayText.{Naming, leaf_columns}
use Rattle.databases.specs.Schedule.{HasRun, IsReached, SeenWorld, refusal_text}

-- rows under the names of their columns
abbrev pub rows_text : Mode → List (List ℕ) → List (List Value) → List ℕ
rows_text mode columns rows = answer_in mode (Rows columns rows)

-- what is told where a store fails while this is shown
abbrev pub failed_text : List ℕ → Fault → List ℕ
failed_text name why = refusal_text (record { client = name; site = name; missing = [] }) why

abbrev pub no_relation_text : Mode → List ℕ → List ℕ
no_relation_text mode name = line_in mode (codes "no relation " ++ name)

-- the rows of a relation, if there is one
abbrev pub relation_text : Mode → Catalogue → List ℕ → Option (List (List Value)) → List ℕ
relation_text mode catalogue name None = no_relation_text mode name
relation_text mode catalogue name (Some rows) = rows_text mode (names_of_columns (columns_of (schemas_of catalogue) name)) rows

-- the statements that make the rows of a relation anew, if there is one
abbrev pub dump_in : Mode → List ℕ → Option RelationSchema → List (List Value) → List ℕ
dump_in mode name None rows = no_relation_text mode name
dump_in mode name (Some relation) rows = dump_bytes relation.name rows

abbrev pub dumped_text : Mode → Catalogue → List ℕ → Option (List (List Value)) → List ℕ
dumped_text mode catalogue name None = no_relation_text mode name
dumped_text mode catalogue name (Some rows) = dump_in mode name (relation_named name (schemas_of catalogue)) rows

abbrev pub no_leaf_text : Mode → List ℕ → List ℕ
no_leaf_text mode name = line_in mode (codes "no leaf " ++ name)

-- the parts of a leaf, if there is one
abbrev pub parts_text : Mode → Catalogue → List ℕ → Leaf → Option (List (List Value)) → List ℕ
parts_text mode catalogue name leaf None = no_leaf_text mode name
parts_text mode catalogue name leaf (Some parts) = rows_text mode (leaf_columns catalogue (leaf_named leaf (catalogue_leaves catalogue))) parts

-- a leaf in a line, with how many rows it has
abbrev pub counted_line : Catalogue → FragmentLeaf → ℕ → List ℕ
counted_line catalogue leaf count =
    leaf_told catalogue.sites (schemas_of catalogue) leaf ++ codes ": " ++ decimal count ++ (if count == 1 then codes " row\n" else codes " rows\n")

abbrev pub counted_in : Mode → Catalogue → List ℕ → Option FragmentLeaf → ℕ → List ℕ
counted_in mode catalogue name None count = no_leaf_text mode name
counted_in mode catalogue name (Some leaf) count = counted_line catalogue leaf count

-- so with the parts that are kept of it, if there is one
abbrev pub counted_text : Mode → Catalogue → List ℕ → Leaf → Option (List (List Value)) → List ℕ
counted_text mode catalogue name leaf None = no_leaf_text mode name
counted_text mode catalogue name leaf (Some parts) = counted_in mode catalogue name (leaf_named leaf (catalogue_leaves catalogue)) (length parts)

-- the first of some leaves whose name is written so
abbrev pub written_leaf : List ℕ → List FragmentLeaf → Option Leaf
written_leaf name [] = None
written_leaf name (leaf ∷ leaves) = if bytes_eq (leaf_text leaf.name) name then Some leaf.name else written_leaf name leaves

-- the names of transactions, each in a line
abbrev pub names_text : Naming → List Txn → List ℕ
names_text named txns = flat_map (λ txn. named txn ++ 10 ∷ []) txns

-- what stands where something is shown: a database, its catalogue in force, whole relations, what has happened in a run over them, and the machines that it has led to
pub record Sight : Type 0 where
  pub db : Database
  pub catalogue : Catalogue
  pub whole : Relations
  pub entries : List Entry
  pub machines : Machines

abbrev pub sight_of : {W : Type 0} → SeenWorld W → Database → Relations → W → Sight
sight_of seen db whole world = record { db = db; catalogue = seen.catalogue world; whole = whole; entries = seen.entries world; machines = seen.machines world }

-- what is shown of a relation after a run over whole relations: the rows that the committed transactions make of it, one after another
abbrev pub IsShownRelation : Sight → List ℕ → List ℕ → Type 0
IsShownRelation sight name text =
    (found : Option (List (List Value))) × ShowsSerial sight.db sight.whole sight.entries name found × (text ≡ relation_text Tabs sight.catalogue name found)

-- the same of a leaf: the parts that are kept of it where the run leads to
abbrev pub IsShownParts : Sight → List ℕ → Leaf → List ℕ → Type 0
IsShownParts sight name leaf text =
    IsReached sight.db sight.whole sight.machines sight.entries × (text ≡ parts_text Tabs sight.catalogue name leaf (parts_kept sight.db sight.machines leaf))

abbrev pub IsShownAs : Sight → List ℕ → Option Leaf → List ℕ → Type 0
IsShownAs sight name None text = text ≡ no_leaf_text Tabs name
IsShownAs sight name (Some leaf) text = IsShownParts sight name leaf text

abbrev pub IsShownLeaf : Sight → List ℕ → List ℕ → Type 0
IsShownLeaf sight name text = IsShownAs sight name (written_leaf name (catalogue_leaves sight.catalogue)) text

-- what is asked for by this name isn't shown, as the medium of a store has refused meanwhile, and that is told. before, after: how often the media have refused
pub record IsUnshown (before after : List ℕ) (name text : List ℕ) : Type 0 where
  pub why : Fault
  pub of_medium : is_of_medium why ≡ true
  pub refused : HaveRefused before after
  pub told : text ≡ failed_text name why

-- it is shown, as Shown says of the text, unless a medium has refused
abbrev pub ShownUnlessRefused : (before after : List ℕ) → List ℕ → (List ℕ → Type 0) → List ℕ → Type 0
ShownUnlessRefused before after name Shown text = Shown text ⊎ IsUnshown before after name text

-- So by a call after a run over whole relations and a list of catalogues, where the stores are clean as it ends. Shown: what it says of what stands there and of a text; bytes_of: the text of
-- what a call gives
abbrev pub ShowsOf : {W T E : Type 0} → SeenWorld W → List ℕ → (Sight → List ℕ → Type 0) → (T → List ℕ) → W → W → Result T E → Type 0
ShowsOf seen name Shown bytes_of old new result =
    (db : Database) (whole : Relations) → seen.is_clean new → HasRun seen db whole old → IfOk result (λ given. ShownUnlessRefused (seen.refused old) (seen.refused new) name (Shown (sight_of seen db whole old)) (bytes_of given))
