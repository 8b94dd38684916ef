-- The catalogues of a list that a coordinator has.
use Rattle.std.specs.Prelude.{◌≡◌, ◌⊎◌, ℕ, List, [], ◌∷◌, map}
use Rattle.catalog.specs.declared.relation.SplitRelation.{SplitRelation}
use Rattle.catalog.specs.Catalogue.{Catalogue}
use Rattle.catalog.specs.Relation.{catalogue_of}
use Rattle.desk.specs.declared.desk.Desk.{Desk}
use Rattle.desk.specs.OfCatalogue.{from_number}

-- the catalogue in force is the one of this number in the list, and those behind it come later
abbrev pub StandsAt : {D : Type 0} → ℕ → List Catalogue → Desk D → Type 0
StandsAt n catalogues desk = catalogue_of desk.catalog ∷ map catalogue_of desk.later.items ≡ from_number n catalogues

-- this catalogue is in force, and none comes later
pub record IsLast {D : Type 0} (catalogue : Catalogue) (desk : Desk D) : Type 0 where
  pub is : catalogue_of desk.catalog ≡ catalogue
  pub none : desk.later.items ≡ []

-- the sites that all catalogues of a chain have
abbrev pub sites_of : List (List (List ℕ) × List SplitRelation) → List (List ℕ)
sites_of [] = []
sites_of (first ∷ rest) = first.0

-- of these catalogues this is the only one, or the one of this number and the last one
abbrev pub StandsLast : ℕ → List Catalogue → Catalogue → Type 0
StandsLast n catalogues catalogue = (catalogues ≡ catalogue ∷ []) ⊎ (from_number n catalogues ≡ catalogue ∷ [])
