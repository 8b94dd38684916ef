-- What holds of every catalogue, whatever text said it, besides that its fragment trees are valid.
use Rattle.std.specs.Prelude.{◌≡◌, ◌≢◌, ◌≤◌, ◌<◌, ℕ, List, [], Some, length, map}
use Rattle.std.specs.List.{AllByRecursion, slice_get}
use Rattle.std.specs.List.Sorted.{IsStrictlySortedBy}
use Rattle.std.specs.Ordering.{nat_cmp}
use Rattle.std.specs.Cmp.Lexicographic.{slice_cmp}
use Rattle.terms.specs.declared.value.Kind.{Kind}
use Rattle.terms.specs.declared.value.Kind.TheVariants as kinds
use Rattle.terms.specs.Cond.{IsCondOf}
use Rattle.meaning.specs.declared.schema.Schema.{Schema}
use Rattle.meaning.specs.Schema.{kinds_of}
use Rattle.reader.specs.Printable.{AreDistinct, IsNamed}
use Rattle.catalog.specs.declared.fragment_leaf.FragmentLeaf.{FragmentLeaf}
use Rattle.catalog.specs.Catalogue.{SplitRelation, Catalogue, IsSiteName, IsValidCatalogue}
use Rattle.catalog.specs.FragmentLeaf.{leaves_of, catalogue_leaves, leaf_counts, schemas_of}

-- a leaf is at one of the sites; its conditions and columns are on columns of these types; its columns ascend and begin
-- with the key, and are at most 16
pub record IsLeafOver (sites : List (List ℕ)) (kinds : List Kind) (leaf : FragmentLeaf) : Type 0 where
  pub site : leaf.site < length sites
  pub conds : AllByRecursion (IsCondOf kinds) leaf.conds
  pub columns : AllByRecursion (λ col. col < length kinds) leaf.columns
  pub first : slice_get leaf.columns 0 ≡ Some 0
  pub ascending : IsStrictlySortedBy nat_cmp leaf.columns
  pub few : length leaf.columns ≤ 16

-- a relation with names for itself and its columns, an integer as its key, and at most 16 columns and 32 leaves
pub record IsFormedRelation (sites : List (List ℕ)) (relation : SplitRelation) : Type 0 where
  pub named : IsNamed relation.schema
  pub few : length relation.schema.columns ≤ 16
  pub key : slice_get (kinds_of relation.schema) 0 ≡ Some kinds.Int
  pub leaves : AllByRecursion (IsLeafOver sites (kinds_of relation.schema)) (leaves_of relation)
  pub few_leaves : length (leaves_of relation) ≤ 32

-- the names of relations, from the first to the last
abbrev pub names_in : List SplitRelation → List (List ℕ)
names_in relations = map (λ relation. relation.schema.name) relations

-- a catalogue of at most 16 sites, each with a name of its own, and of one to 32 such relations, which ascend by their names
pub record IsFormed (catalogue : Catalogue) : Type 0 where
  pub site_names : AllByRecursion IsSiteName catalogue.sites
  pub distinct : AreDistinct catalogue.sites
  pub few_sites : length catalogue.sites ≤ 16
  pub some : catalogue.relations ≢ []
  pub few_relations : length catalogue.relations ≤ 32
  pub ascending : IsStrictlySortedBy (slice_cmp nat_cmp) (names_in catalogue.relations)
  pub relations : AllByRecursion (IsFormedRelation catalogue.sites) catalogue.relations

-- what the code keeps of a catalogue: it is valid and formed so, and schema, leaves and their numbers are its own
pub record IsCatalog (catalogue : Catalogue) (schema : Schema) (leaves : List FragmentLeaf) (counts : List ℕ) : Type 0 where
  pub valid : IsValidCatalogue catalogue
  pub formed : IsFormed catalogue
  pub schemas : schema.relations ≡ schemas_of catalogue
  pub listed : leaves ≡ catalogue_leaves catalogue
  pub counted : counts ≡ leaf_counts catalogue.relations
