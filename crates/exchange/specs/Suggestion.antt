-- A catalogue that is suggested for a file.
use Rattle.std.specs.Prelude.{◌≡◌, ℕ, true, not, nat_eq, List, [], ◌∷◌, length, map, filter, Option, None}
use Rattle.std.specs.Cmp.Lexicographic.{pointwise}
use Rattle.meaning.specs.declared.schema.Column.{Column}
use Rattle.catalog.specs.Catalogue.{Catalogue, IsCatalogueText, IsValidCatalogue}
use Rattle.catalog.specs.FragmentLeaf.{schemas_of}
use Rattle.exchange.specs.Incoming.{IsFirst}
use Rattle.exchange.specs.Order.{twice_after}

-- the key's name, and the others in their order
abbrev pub key_first : List ℕ → List (List ℕ) → List (List ℕ)
key_first key names = key ∷ filter (λ name. not (pointwise nat_eq name key)) names

-- a catalogue has so many sites, and one relation, of this name and these columns
pub record IsOfColumns (catalogue : Catalogue) (relation : List ℕ) (columns : List Column) (sites : ℕ) : Type 0 where
  pub sited : length catalogue.sites ≡ sites
  pub alone : schemas_of catalogue ≡ record { name = relation; columns = columns } ∷ []

-- the text of a valid catalogue of so many sites and one relation, with the columns that a file names in its first record, each once, the key first
pub record IsSuggestion (file : Option (List ℕ)) (relation key : List ℕ) (sites : ℕ) (text : List ℕ) : Type 0 where
  pub catalogue : Catalogue
  pub text_of : IsCatalogueText text catalogue
  pub valid : IsValidCatalogue catalogue
  pub columns : List Column
  pub made : IsOfColumns catalogue relation columns sites
  pub names : List (List ℕ)
  pub first : IsFirst file true names
  pub apart : twice_after [] names ≡ None
  pub named : map (λ column. column.name) columns ≡ key_first key names
