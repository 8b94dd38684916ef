-- When machines that start are an opening of the protocol.
use Rattle.std.specs.Prelude.{◌≡◌, ℕ, List, false, [], Some, slice_get}
use Rattle.std.specs.FinMap as fin
use Rattle.terms.specs.declared.leaf.Leaf.{Leaf}
use Rattle.meaning.specs.Whole.{FitsSchema, Relations, rows_of}
use Rattle.catalog.specs.declared.fragment_leaf.FragmentLeaf.{FragmentLeaf}
use Rattle.catalog.specs.Catalogue.{Catalogue}
use Rattle.catalog.specs.Fragment.{content}
use Rattle.catalog.specs.FragmentLeaf.{catalogue_leaves, leaf_named, unnamed}
use Rattle.protocol.specs.Serial.{IsOpening}
use Rattle.desk.specs.CatalogueDatabase.{is_home, stored_in}
use Rattle.desk.specs.Database.{Database, IsPlace}
use Rattle.desk.specs.Place.{Place, site_in}
use Rattle.world.specs.Listed.{FitsList}
use Rattle.world.specs.Machines.{AreFit, Machines, world_of}

-- a database has the sites of a catalogue and each leaf at its site, and no other leaf at any; whole relations fit it, and under that catalogue, of this number, each leaf has of them at its site the parts of its fragment, and every other place has nothing
pub record IsPlaced (db : Database) (n : ℕ) (catalogue : Catalogue) (whole : Relations) : Type 0 where
  pub sites : db.sites ≡ catalogue.sites
  pub places : (place : Place) → IsPlace db place → site_in catalogue place.1 ≡ Some place.0
  pub fits : FitsSchema db.schemas whole
  pub has : (name : Leaf) (leaf : FragmentLeaf) (site : List ℕ) → leaf_named name (catalogue_leaves catalogue) ≡ Some leaf → slice_get catalogue.sites leaf.site ≡ Some site →
      db.content n (site, name) whole ≡ stored_in fin.empty (content (unnamed leaf) (rows_of whole leaf.name.relation))
  pub nowhere : (place : Place) → is_home catalogue place ≡ false → db.content n place whole ≡ fin.empty

-- so where other leaves are at its sites under other catalogues
pub record ListPlaced (db : Database) (n : ℕ) (catalogue : Catalogue) (whole : Relations) : Type 0 where
  pub sites : db.sites ≡ catalogue.sites
  pub fits : FitsSchema db.schemas whole
  pub has : (name : Leaf) (leaf : FragmentLeaf) (site : List ℕ) → leaf_named name (catalogue_leaves catalogue) ≡ Some leaf → slice_get catalogue.sites leaf.site ≡ Some site →
      db.content n (site, name) whole ≡ stored_in fin.empty (content (unnamed leaf) (rows_of whole leaf.name.relation))
  pub nowhere : (place : Place) → is_home catalogue place ≡ false → db.content n place whole ≡ fin.empty

-- machines are fit, and nothing has happened: under the catalogue in force their fragments rebuild whole relations
pub record Opens (db : Database) (whole : Relations) (machines : Machines) : Type 0 where
  pub fit : AreFit db machines
  pub opening : IsOpening (machines.table.version, whole) (world_of db machines [] [])

-- so over a list of catalogues
pub record ListOpens (db : Database) (whole : Relations) (machines : Machines) : Type 0 where
  pub fit : FitsList db machines
  pub opening : IsOpening (machines.table.version, whole) (world_of db machines [] [])
