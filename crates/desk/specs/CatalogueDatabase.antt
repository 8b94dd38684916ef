-- The database of a catalogue: where its leaves are, what each place has of whole relations, and what statements read and write.
use Rattle.std.specs.Prelude.{◌≡◌, ℕ, zero, suc, ℤ, nat_eq, ◌==◌, ◌&&◌, Bool, false, List, [], ◌∷◌, Option, Some, None, flat_map, length, map, if◌then◌else◌}
use Rattle.std.specs.Cmp.Lexicographic.{pointwise}
use Rattle.std.specs.FinMap as fin
use Rattle.std.specs.List.{list_all}
use Rattle.std.specs.Ordering.{int_eq}
use Rattle.terms.specs.declared.leaf.Leaf.{Leaf}
use Rattle.terms.specs.declared.value.Value.{Value}
use Rattle.terms.specs.Row.{key_of}
use Rattle.meaning.specs.Whole.{Relations, rows_of}
use Rattle.catalog.specs.declared.fragment_leaf.FragmentLeaf.{FragmentLeaf}
use Rattle.catalog.specs.Catalogue.{Catalogue}
use Rattle.catalog.specs.Fragment.{content}
use Rattle.catalog.specs.FragmentLeaf.{catalogue_leaves, leaf_named, schemas_of, unnamed}
use Rattle.plan.specs.Picked.{fetches_by}
use Rattle.answers.specs.declared.moves.Move.{Move}
use Rattle.answers.specs.Evaluated.{parts_climb}
use Rattle.answers.specs.Moves.{moves_between}
use Rattle.answers.specs.Writes.{writes_between}
use Rattle.store.specs.Content.{Content}
use Rattle.desk.specs.Database.{Database}
use Rattle.desk.specs.OfCatalogue.{IsOfCatalogue}
use Rattle.desk.specs.Place.{Place, fetch_in, move_in, site_in, write_in}

-- the leaf of a name
abbrev pub found : Catalogue → Leaf → Option FragmentLeaf
found catalogue name = leaf_named name (catalogue_leaves catalogue)

-- the number of its columns
abbrev pub width_of : Option FragmentLeaf → ℕ
width_of None = 0
width_of (Some leaf) = length leaf.columns

-- a content with parts under their keys
abbrev pub stored_in : Content → List (List Value) → Content
stored_in kept [] = kept
stored_in kept (part ∷ parts) = stored_in (fin.insert kept (key_of part) part) parts

-- parts by their keys
abbrev pub stored : List (List Value) → Content
stored parts = stored_in fin.empty parts

-- what it has of whole relations
abbrev pub content_of : Option FragmentLeaf → Relations → Content
content_of None whole = fin.empty
content_of (Some leaf) whole = stored (content (unnamed leaf) (rows_of whole leaf.name.relation))

-- whether a site is this one
abbrev pub is_site : Option (List ℕ) → List ℕ → Bool
is_site None site = false
is_site (Some home) site = pointwise nat_eq home site

-- whether the catalogue has the leaf at the site
abbrev pub is_home : Catalogue → Place → Bool
is_home catalogue place = is_site (site_in catalogue place.1) place.0

-- what a place has of whole relations: nothing where the catalogue has no such leaf there
abbrev pub content_at : Catalogue → Place → Relations → Content
content_at catalogue place whole = if is_home catalogue place then content_of (found catalogue place.1) whole else fin.empty

-- the database whose one catalogue has every number
abbrev pub database : Catalogue → Database
database catalogue = record {
  catalogue = λ n. catalogue;
  schemas = schemas_of catalogue;
  sites = catalogue.sites;
  well_formed = λ n place parts. parts_climb (width_of (found catalogue place.1)) None parts;
  content = λ n. content_at catalogue;
  fetches = λ n statement. map (fetch_in catalogue) (fetches_by catalogue statement);
  writes = λ n m before after. map (write_in catalogue) (writes_between catalogue before after);
}

-- the catalogue of a number, counted from 1, in a list; past its end it is the last one
abbrev pub numbered : Catalogue → List Catalogue → ℕ → Catalogue
numbered first [] n = first
numbered first (next ∷ rest) zero = first
numbered first (next ∷ rest) (suc zero) = first
numbered first (next ∷ rest) (suc (suc n)) = numbered next rest (suc n)

-- what moves from one catalogue to another, relation by relation
abbrev pub all_moves : Catalogue → Catalogue → Relations → List Move
all_moves old new whole = flat_map (λ schema. moves_between old new schema.name (rows_of whole schema.name)) (schemas_of old)

-- the database of a list of catalogues: a statement writes under the one in force, and where another one comes into force parts move
abbrev pub databases : Catalogue → List Catalogue → Database
databases first rest = record {
  catalogue = numbered first rest;
  schemas = schemas_of first;
  sites = first.sites;
  well_formed = λ n place parts. parts_climb (width_of (found (numbered first rest n) place.1)) None parts;
  content = λ n. content_at (numbered first rest n);
  fetches = λ n statement. map (fetch_in (numbered first rest n)) (fetches_by (numbered first rest n) statement);
  writes = λ n m before after. if n == m then map (write_in (numbered first rest n)) (writes_between (numbered first rest n) before after) else map move_in (all_moves (numbered first rest n) (numbered first rest m) before);
}

-- a database is that of its catalogues, and has nothing elsewhere
pub record IsBase (db : Database) : Type 0 where
  pub of_catalogue : IsOfCatalogue db
  pub nowhere : (n : ℕ) (place : Place) (whole : Relations) → is_home (db.catalogue n) place ≡ false → db.content n place whole ≡ fin.empty

-- whether a part stands under its key, with a value for each column
abbrev pub is_part : ℕ → ℤ × List Value → Bool
is_part width entry = (length entry.1 == width) && int_eq (key_of entry.1) entry.0

-- whether all parts of a place do
abbrev pub fits : Catalogue → Place → Content → Bool
fits catalogue place kept = list_all (is_part (width_of (found catalogue place.1))) (fin.entries kept)
