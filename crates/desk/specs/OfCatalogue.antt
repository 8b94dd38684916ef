-- What a database has to do with its catalogues.
use Rattle.std.specs.Prelude.{◌≡◌, ◌↔◌, ⊤, ℕ, zero, suc, true, List, [], ◌∷◌, map, Option, None, Some}
use Rattle.std.specs.FinMap as keyed
use Rattle.std.specs.List.{AllByRecursion, slice_get}
use Rattle.terms.specs.declared.value.Value.{Value}
use Rattle.meaning.specs.declared.statement.Statement.{Statement}
use Rattle.meaning.specs.Statement.{IsStatementOf}
use Rattle.meaning.specs.Whole.{FitsSchema, Relations, rows_of}
use Rattle.catalog.specs.declared.fragment_leaf.FragmentLeaf.{FragmentLeaf}
use Rattle.catalog.specs.declared.relation.SplitRelation.{SplitRelation}
use Rattle.catalog.specs.Catalogue.{Catalogue}
use Rattle.catalog.specs.Chain.{IsNext}
use Rattle.catalog.specs.Formed.{IsFormed}
use Rattle.catalog.specs.Fragment.{content}
use Rattle.catalog.specs.FragmentLeaf.{catalogue_leaves, schemas_of, unnamed}
use Rattle.catalog.specs.Relation.{catalogue_of}
use Rattle.plan.specs.declared.fetch.Fetch.{Fetch}
use Rattle.plan.specs.Stated.{AreFetchesOf}
use Rattle.answers.specs.Moves.{moves_between}
use Rattle.answers.specs.Table.{AreParts}
use Rattle.answers.specs.Writes.{writes_between}
use Rattle.desk.specs.Database.{Database}
use Rattle.desk.specs.Place.{fetch_in, move_in, write_in}

-- rows are well formed where they are parts of the leaf's columns
abbrev pub FormsParts : Database → ℕ → FragmentLeaf → Type 0
FormsParts db n leaf = (site : List ℕ) (rows : List (List Value)) → (db.well_formed n (site, leaf.name) rows ≡ true) ↔ AreParts leaf.columns rows

-- at its site a leaf has the parts that the fragment has of its relation, by their keys
abbrev pub HasContent : Database → ℕ → Relations → FragmentLeaf → Type 0
HasContent db n whole leaf = (site : List ℕ) → slice_get (db.catalogue n).sites leaf.site ≡ Some site → keyed.values (db.content n (site, leaf.name) whole) ≡ content (unnamed leaf) (rows_of whole leaf.name.relation)

-- a database's sites, relations, places, fetches and writes under each catalogue are those of the catalogue
pub record IsOfCatalogue (db : Database) : Type 0 where
  pub formed : (n : ℕ) → IsFormed (db.catalogue n)
  pub schemas : (n : ℕ) → db.schemas ≡ schemas_of (db.catalogue n)
  pub sites : (n : ℕ) → db.sites ≡ (db.catalogue n).sites
  pub well_formed : (n : ℕ) → AllByRecursion (FormsParts db n) (catalogue_leaves (db.catalogue n))
  pub content : (n : ℕ) (whole : Relations) → FitsSchema db.schemas whole → AllByRecursion (HasContent db n whole) (catalogue_leaves (db.catalogue n))
  pub fetches : (n : ℕ) (statement : Statement) (fetches : List Fetch) → IsStatementOf db.schemas statement → AreFetchesOf (db.catalogue n) statement fetches → db.fetches n statement ≡ map (fetch_in (db.catalogue n)) fetches
  pub writes : (n : ℕ) (before after : Relations) → db.writes n n before after ≡ map (write_in (db.catalogue n)) (writes_between (db.catalogue n) before after)
  -- from one catalogue to the next, which splits one relation otherwise, the parts of that relation's rows move
  pub moves : (n : ℕ) (name : List ℕ) (whole : Relations) → IsNext (db.catalogue n) (db.catalogue (suc n)) name → db.writes n (suc n) whole whole ≡ map move_in (moves_between (db.catalogue n) (db.catalogue (suc n)) name (rows_of whole name))

-- the catalogue of this number is the one that was read
abbrev pub InForce : Database → ℕ → List (List ℕ) × List SplitRelation → Type 0
InForce db n catalog = db.catalogue n ≡ catalogue_of catalog

-- the catalogue that comes after that of this number, if one does, is the one that was read
abbrev pub IsNextOf : Database → ℕ → Option (List (List ℕ) × List SplitRelation) → Type 0
IsNextOf db n None = ⊤
IsNextOf db n (Some next) = InForce db (suc n) next

-- these come after it, in this order
abbrev pub AreNextOf : Database → ℕ → List (List (List ℕ) × List SplitRelation) → Type 0
AreNextOf db n [] = ⊤
AreNextOf db n (next ∷ rest) = InForce db (suc n) next × AreNextOf db (suc n) rest

-- the first of these, if there is one
abbrev pub first_in : List (List (List ℕ) × List SplitRelation) → Option (List (List ℕ) × List SplitRelation)
first_in [] = None
first_in (next ∷ rest) = Some next

-- the catalogues from the one in force on, once the next one is: past the end the last one stays
abbrev pub follow : List (List ℕ) × List SplitRelation → List (List (List ℕ) × List SplitRelation) → (List (List ℕ) × List SplitRelation) × List (List (List ℕ) × List SplitRelation)
follow catalog [] = (catalog, [])
follow catalog (next ∷ rest) = (next, rest)

-- the catalogues from the one of this number on, which are numbered from 1: none where there is none of it
abbrev pub from_number : ℕ → List Catalogue → List Catalogue
from_number n [] = []
from_number zero (catalogue ∷ catalogues) = []
from_number (suc zero) (catalogue ∷ catalogues) = catalogue ∷ catalogues
from_number (suc (suc n)) (catalogue ∷ catalogues) = from_number (suc n) catalogues
