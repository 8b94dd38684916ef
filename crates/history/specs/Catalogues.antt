-- The catalogues that a coordinator has, call by call, and the databases that have them.
use Rattle.std.specs.Prelude.{◌≡◌, ◌==◌, ⊤, ℕ, suc, List, [], ◌∷◌, map, if◌then◌else◌}
use Rattle.catalog.specs.declared.relation.SplitRelation.{SplitRelation}
use Rattle.catalog.specs.Catalogue.{Catalogue}
use Rattle.catalog.specs.Relation.{catalogue_of}
use Rattle.desk.specs.declared.desk.Desk.{Desk}
use Rattle.desk.specs.CatalogueDatabase.{IsBase}
use Rattle.desk.specs.Database.{Database}
use Rattle.desk.specs.OfCatalogue.{follow}
use Rattle.history.specs.declared.entry.Input as inputs
use Rattle.history.specs.declared.entry.Input.TheVariants as input

-- under this number and those after it a database has these catalogues
abbrev pub HasFrom : Database → ℕ → List Catalogue → Type 0
HasFrom db n [] = ⊤
HasFrom db n (catalogue ∷ catalogues) = (db.catalogue n ≡ catalogue) × HasFrom db (suc n) catalogues

-- a database is one of these catalogues, the first of which has this number
pub record IsOfCatalogues (db : Database) (n : ℕ) (catalogues : List Catalogue) : Type 0 where
  pub base : IsBase db
  pub has : HasFrom db n catalogues

-- the catalogues of a coordinator: the one in force, and those that come after it
abbrev pub catalogues_of : {D : Type 0} → Desk D → List Catalogue
catalogues_of desk = catalogue_of desk.catalog ∷ map catalogue_of desk.later.items

-- the catalogues that it has after a call, by the number now: a letter that brings another number brings the next catalogue into force, and no other call does
abbrev pub catalogs_after : {D : Type 0} → inputs.Input → Desk D → ℕ → (List (List ℕ) × List SplitRelation) × List (List (List ℕ) × List SplitRelation)
catalogs_after (input.Take letter) desk now = if now == desk.volatile.version then (desk.catalog, desk.later.items) else follow desk.catalog desk.later.items
catalogs_after other desk now = (desk.catalog, desk.later.items)
