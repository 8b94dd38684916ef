-- Catalogues: sites, relations and their fragment trees, and the text of one.
use Rattle.std.specs.Prelude.{◌≡◌, ◌≢◌, ◌≤◌, ◌==◌, ℕ, if◌then◌else◌, List, [], ◌∷◌, ◌++◌, Option, Some, None, option_and_then, length, codes}
use Rattle.std.specs.List.{AllByRecursion, slice_get}
use Rattle.toml.specs.Data.{Data, table, Members, no_members, member, get_member, as_table}
use Rattle.toml.specs.Parse.{parse_document}
use Rattle.terms.specs.declared.value.Kind.{Kind}
use Rattle.terms.specs.declared.value.Kind.TheVariants as kinds
use Rattle.meaning.specs.declared.schema.Column.{Column}
use Rattle.meaning.specs.declared.schema.RelationSchema.{RelationSchema}
use Rattle.meaning.specs.Schema.{kinds_of, names_of}
use Rattle.reader.specs.Printable.{AreDistinct}
use Rattle.reader.specs.Tokens.{IsName}
use Rattle.catalog.specs.Describes.{Each, Describes}
use Rattle.catalog.specs.Node.{key_count, some_texts, texts_at}
use Rattle.catalog.specs.Path.{columns_beside_key, paths}
use Rattle.catalog.specs.Split.{Tree}
use Rattle.catalog.specs.Valid.{IsValid}

-- a relation and its fragment tree
pub record SplitRelation : Type 0 where
  pub schema : RelationSchema
  pub tree : Tree

-- the names of the sites, and the relations by their names
pub record Catalogue : Type 0 where
  pub sites : List (List ℕ)
  pub relations : List SplitRelation

-- the word of a type
abbrev pub kind_word : Kind → List ℕ
kind_word kinds.Int = codes "int"
kind_word kinds.Text = codes "text"

-- a text of a column: its name, one blank, and its type's word
pub record IsColumnText (text : List ℕ) (column : Column) : Type 0 where
  pub spelled : text ≡ column.name ++ 32 ∷ kind_word column.kind
  pub name : IsName column.name

-- what a document says of a relation of this name
pub record IsRelationIn (sites : List (List ℕ)) (entry : List ℕ × Data) (relation : SplitRelation) : Type 0 where
  pub name : IsName entry.0
  pub named : relation.schema.name ≡ entry.0
  pub texts : List (List ℕ)
  pub there : texts_at (codes "columns") entry.1 ≡ Some texts
  pub columns : Each IsColumnText texts relation.schema.columns
  pub distinct : AreDistinct (names_of relation.schema)
  pub few : length relation.schema.columns ≤ 16
  pub key : slice_get (kinds_of relation.schema) 0 ≡ Some kinds.Int
  pub describes : Describes (record { sites = sites; columns = relation.schema.columns }) 4 [] (columns_beside_key (kinds_of relation.schema)) (codes "columns") entry.1 relation.tree
  pub few_leaves : length (paths relation.tree) ≤ 32

-- a table's keys and what they have, in the keys' byte order
abbrev pub entries : Members → List (List ℕ × Data)
entries no_members = []
entries (member key value rest) = (key, value) ∷ entries rest

-- a name of a site: any but the coordinator's
abbrev pub IsSiteName : List ℕ → Type 0
IsSiteName name = IsName name × (name ≢ codes "desk")

-- what stands at the two keys of a document: the texts of its sites, and the table of its relations
abbrev pub both_parts : Option (List (List ℕ)) → Option Members → Option (List (List ℕ) × Members)
both_parts (Some sites) (Some relations) = Some (sites, relations)
both_parts _ _ = None

abbrev pub document_parts : Data → Option (List (List ℕ) × Members)
document_parts (table document) =
    if key_count document == 2
    then both_parts (option_and_then some_texts (get_member (codes "sites") document)) (option_and_then as_table (get_member (codes "relations") document))
    else None
document_parts _ = None

-- a document of sites and relations alone, each with something in it
pub record IsDocumentOf (document : Data) (catalogue : Catalogue) : Type 0 where
  pub members : Members
  pub parts : document_parts document ≡ Some (catalogue.sites, members)
  pub site_names : AllByRecursion IsSiteName catalogue.sites
  pub distinct : AreDistinct catalogue.sites
  pub few_sites : length catalogue.sites ≤ 16
  pub relations : Each (IsRelationIn catalogue.sites) (entries members) catalogue.relations
  pub some : catalogue.relations ≢ []
  pub few_relations : length catalogue.relations ≤ 32

-- the text of a catalogue: at most 65,536 bytes of TOML
pub record IsCatalogueText (text : List ℕ) (catalogue : Catalogue) : Type 0 where
  pub short : length text ≤ 65536
  pub document : Members
  pub parses : parse_document text ≡ Some document
  pub describes : IsDocumentOf (table document) catalogue

-- a relation's fragment tree is valid
abbrev pub IsValidRelation : SplitRelation → Type 0
IsValidRelation relation = IsValid (kinds_of relation.schema) relation.tree

-- and so is each relation's
abbrev pub IsValidCatalogue : Catalogue → Type 0
IsValidCatalogue catalogue = AllByRecursion IsValidRelation catalogue.relations
