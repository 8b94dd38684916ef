-- The leaves of a catalogue are at its sites, and no site stands twice.
use Rattle.std.proofs.Common.{◌≡◌, ◌≢◌, sym, ℕ, zero, suc, List, [], ◌∷◌, Some, inl, inr}
use Rattle.std.specs.List.{AllByRecursion, slice_get}
use Rattle.reader.specs.Printable.{AreDistinct}
use Rattle.catalog.specs.declared.fragment_leaf.FragmentLeaf.{FragmentLeaf}
use Rattle.catalog.specs.Catalogue.{Catalogue}
use Rattle.catalog.specs.Formed.{IsFormed}
use Rattle.catalog.specs.FragmentLeaf.{catalogue_leaves}
use Rattle.catalog.specs.Laws.{LeafNamesAreUnique}
use Rattle.plan.specs.Contents.{ContentsAscend}
use Rattle.protocol.specs.Parts.{In}
use Rattle.protocol.proofs.Basics.{some_is}
use Rattle.protocol.proofs.Locks.{Once}
use Rattle.desk.specs.Place.{home_in}
use Rattle.world.proofs.DatabaseIsLawful.{homes}

not_later : (site : List ℕ) (sites : List (List ℕ)) → AllByRecursion (λ other. site ≢ other) sites → In site sites → ⊥
not_later site [] apart here = here
not_later site (other ∷ sites) apart (inl same) = apart.0 same
not_later site (other ∷ sites) apart (inr later) = not_later site sites apart.1 later

once : (sites : List (List ℕ)) → AreDistinct sites → Once sites
once [] distinct = tt
once (site ∷ sites) distinct = (not_later site sites distinct.0, once sites distinct.1)

pub sites_once : (catalogue : Catalogue) → IsFormed catalogue → Once catalogue.sites
sites_once catalogue formed = once catalogue.sites formed.distinct

-- a site at a number is among them
in_at : (sites : List (List ℕ)) (number : ℕ) (site : List ℕ) → slice_get sites number ≡ Some site → In site sites
in_at [] number site there = absurd cc
in_at (first ∷ sites) zero site there = inl (sym (some_is there))
in_at (first ∷ sites) (suc number) site there = inr (in_at sites number site there)

each_in : (sites : List (List ℕ)) (home : FragmentLeaf → List ℕ) (leaves : List FragmentLeaf) → AllByRecursion (λ leaf. slice_get sites leaf.site ≡ Some (home leaf)) leaves → AllByRecursion (λ leaf. In (home leaf) sites) leaves
each_in sites home [] there = tt
each_in sites home (leaf ∷ leaves) there = (in_at sites leaf.site (home leaf) there.0, each_in sites home leaves there.1)

-- the home of each leaf is among the sites
pub leaf_at_sites : (catalogue : Catalogue) → IsFormed catalogue → LeafNamesAreUnique → ContentsAscend → AllByRecursion (λ leaf. In (home_in catalogue leaf.name) catalogue.sites) (catalogue_leaves catalogue)
leaf_at_sites catalogue formed unique ascend = each_in catalogue.sites (λ leaf. home_in catalogue leaf.name) (catalogue_leaves catalogue) (homes catalogue formed unique ascend)
