-- Lists of catalogues, of which each splits one relation otherwise than the one before it.
use Rattle.std.specs.Prelude.{◌≡◌, ◌≢◌, ℕ, List, [], ◌∷◌, ◌++◌}
use Rattle.catalog.specs.Catalogue.{Catalogue, SplitRelation}

-- relations with the same names and columns, of which the one of this name alone is split otherwise
pub record DifferIn (relations others : List SplitRelation) (name : List ℕ) : Type 0 where
  pub before : List SplitRelation
  pub after : List SplitRelation
  pub one : SplitRelation
  pub other : SplitRelation
  pub are : relations ≡ before ++ one ∷ after
  pub become : others ≡ before ++ other ∷ after
  pub named : one.schema.name ≡ name
  pub same : one.schema ≡ other.schema
  pub split : one.tree ≢ other.tree

-- a catalogue may come next: it has the same sites, and splits the relation of this name alone otherwise
pub record IsNext (catalogue next : Catalogue) (name : List ℕ) : Type 0 where
  pub sites : catalogue.sites ≡ next.sites
  pub relations : DifferIn catalogue.relations next.relations name

-- each catalogue may come next after the one before it
abbrev pub Follow : Catalogue → List Catalogue → Type 0
Follow catalogue [] = Unit {0}
Follow catalogue (next ∷ rest) = ((name : List ℕ) × IsNext catalogue next name) × Follow next rest

-- a chain: a first catalogue, and those that follow it
abbrev pub IsChain : List Catalogue → Type 0
IsChain [] = ⊥
IsChain (first ∷ rest) = Follow first rest
