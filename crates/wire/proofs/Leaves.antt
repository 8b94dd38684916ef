-- Stores that have the leaves that their sites know.
use Rattle.std.proofs.Common.{◌≡◌, true, List, [], ◌∷◌, map}
use Rattle.terms.specs.declared.leaf.Leaf.{Leaf}
use Rattle.catalog.specs.Catalogue.{Catalogue}
use Rattle.store.specs.SiteContent.{SiteContent}
use Rattle.world.specs.Recovery as recovery
use Rattle.wire.specs.Opening.{HaveLeaves}

module _ {S : Type 0} (is_clean : S → Type 0) (kept : S → SiteContent) (catalogue : Catalogue) where
  -- stores that have every leaf
  pub have_all : ((store : S) (leaf : Leaf) → (kept store).has leaf ≡ true) → (stores : List S) → HaveLeaves is_clean kept catalogue stores
  have_all all [] = tt
  have_all all (store ∷ stores) = (λ clean leaf there. all store leaf, have_all all stores)

  -- stores of which it is known whether they are clean or not
  pub have_kept : (stores : List S) → recovery.HaveLeaves catalogue (map kept stores) → HaveLeaves is_clean kept catalogue stores
  have_kept [] have = tt
  have_kept (store ∷ stores) have = (λ clean. have.0, have_kept stores have.1)
