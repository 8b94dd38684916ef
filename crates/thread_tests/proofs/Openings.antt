-- Stores that are opened for a chain of catalogues.
use Rattle.std.proofs.Common.{◌≡◌, ◌∙◌, ℕ, List, ◌∷◌, IfOk, Result, Ok, Err, ap, length, map, subst, sym}
use Rattle.catalog.specs.declared.relation.SplitRelation.{SplitRelation}
use Rattle.catalog.specs.Catalogue.{Catalogue}
use Rattle.catalog.specs.Relation.{catalogue_of}
use Rattle.store.specs.SiteContent.{SiteContent}
use Rattle.wire.specs.Opening.{HaveLeaves}
use Rattle.world.specs.Chain.{sites_of}

-- what holds where something is made, by what was made
pub if_ok : {A E : Type 0} {P Q : A → Type 0} (result : Result A E) → ((x : A) → P x → Q x) → IfOk result P → IfOk result Q
if_ok (Ok x) to p = to x p
if_ok (Err e) to p = tt

same_head : {A : Type 0} (x y : A) (xs ys : List A) → x ∷ xs ≡ y ∷ ys → x ≡ y
same_head x y xs ys same = cc

module _ (chain : List (List (List ℕ) × List SplitRelation)) (first : List (List ℕ) × List SplitRelation) (others : List (List (List ℕ) × List SplitRelation)) (are : chain ≡ first ∷ others) where
  -- all catalogues of a chain have the sites of the first one
  pub sites_there : length first.0 ≡ length (sites_of chain)
  sites_there = ap (λ (all : List (List (List ℕ) × List SplitRelation)). length (sites_of all)) (sym are)

  -- stores that have the leaves of the first one have those of whichever stands first
  pub leaves_over : {S : Type 0} (is_clean : S → Type 0) (kept : S → SiteContent) (stores : List S) → HaveLeaves is_clean kept (catalogue_of first) stores → (catalogue : Catalogue) (rest : List Catalogue) → map catalogue_of chain ≡ catalogue ∷ rest → HaveLeaves is_clean kept catalogue stores
  leaves_over is_clean kept stores have catalogue rest is =
      subst (λ (catalogue : Catalogue). HaveLeaves is_clean kept catalogue stores) (same_head (catalogue_of first) catalogue (map catalogue_of others) rest (sym (ap (map catalogue_of) are) ∙ is)) have
