-- Where a catalogue has its leaves, and what its database has at a place.
use Rattle.std.proofs.Common.{◌≡◌, ◌<◌, refl, sym, ap, ◌∙◌, ℕ, zero, suc, Bool, true, false, if◌then◌else◌, List, [], ◌∷◌, length, Option, Some, None, unwrap_or, arith}
use Rattle.std.specs.FinMap as fin
use Rattle.std.specs.List.{slice_get}
use Rattle.std.specs.Option.{option_and_then}
use Rattle.terms.specs.declared.leaf.Leaf.{Leaf}
use Rattle.meaning.specs.Whole.{Relations}
use Rattle.catalog.specs.declared.fragment_leaf.FragmentLeaf.{FragmentLeaf}
use Rattle.catalog.specs.Catalogue.{Catalogue}
use Rattle.catalog.specs.Formed.{IsFormed}
use Rattle.catalog.specs.FragmentLeaf.{catalogue_leaves, is_name_of}
use Rattle.catalog.proofs.FormedCatalogues.{sited}
use Rattle.desk.specs.CatalogueDatabase.{content_at, content_of, found, is_home, is_site}
use Rattle.desk.specs.Place.{home_in, site_in}
use Rattle.desk.proofs.AtHomes.{found_so}
use Rattle.world.proofs.Seating.{name_self}

-- there is a site at each number below their count
pub site_there : (sites : List (List ℕ)) (number : ℕ) → number < length sites → slice_get sites number ≡ Some (unwrap_or (slice_get sites number) [])
site_there [] number within = absurd (omega arith)
site_there (site ∷ sites) zero within = refl
site_there (site ∷ sites) (suc number) within = site_there sites number (omega arith)

module _ (catalogue : Catalogue) where
  -- the site of a leaf, if there is one
  abbrev pub at_in : Option FragmentLeaf → Option (List ℕ)
  at_in found = option_and_then (λ (leaf : FragmentLeaf). slice_get catalogue.sites leaf.site) found

  -- a leaf of a catalogue is at its home
  pub home_there : IsFormed catalogue → (name : Leaf) (leaf : FragmentLeaf) → found catalogue name ≡ Some leaf → slice_get catalogue.sites leaf.site ≡ Some (home_in catalogue name)
  home_there formed name leaf there =
      let within = (found_so (λ l. l.site < length catalogue.sites) (is_name_of name) (catalogue_leaves catalogue) leaf (sited catalogue (catalogue_leaves catalogue) refl formed) there).0 in
      site_there catalogue.sites leaf.site within ∙ ap (λ (o : Option FragmentLeaf). Some (unwrap_or (at_in o) [])) (sym there)

  pub home_is : IsFormed catalogue → (name : Leaf) (leaf : FragmentLeaf) → found catalogue name ≡ Some leaf → site_in catalogue name ≡ Some (home_in catalogue name)
  home_is formed name leaf there = ap at_in there ∙ home_there formed name leaf there

  module _ (site : List ℕ) (name : Leaf) (whole : Relations) where
    -- what a place has that is no home of a leaf
    pub content_none : is_home catalogue (site, name) ≡ false → content_at catalogue (site, name) whole ≡ fin.empty
    content_none none = ap (λ (b : Bool). if b then content_of (found catalogue name) whole else fin.empty) none

    -- a leaf that the catalogue doesn't have is nowhere at home
    pub content_nowhere : found catalogue name ≡ None → content_at catalogue (site, name) whole ≡ fin.empty
    content_nowhere none = content_none (ap (λ (o : Option FragmentLeaf). is_site (at_in o) site) none)

    -- what a leaf has at its site
    pub content_there : (leaf : FragmentLeaf) → found catalogue name ≡ Some leaf → slice_get catalogue.sites leaf.site ≡ Some site → content_at catalogue (site, name) whole ≡ content_of (Some leaf) whole
    content_there leaf there is =
        let here : is_home catalogue (site, name) ≡ true = ap (λ (o : Option (List ℕ)). is_site o site) (ap at_in there ∙ is) ∙ name_self site in
        ap (λ (b : Bool). if b then content_of (found catalogue name) whole else fin.empty) here ∙ ap (λ (o : Option FragmentLeaf). content_of o whole) there
