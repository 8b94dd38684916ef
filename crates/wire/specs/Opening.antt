-- The stores that a database is opened over, and the cells that it begins with.
use Rattle.std.specs.Prelude.{◌≡◌, ⊤, ℕ, List, [], ◌∷◌}
use Rattle.std.specs.List.{AllByRecursion}
use Rattle.catalog.specs.Catalogue.{Catalogue}
use Rattle.catalog.specs.FragmentLeaf.{schemas_of}
use Rattle.store.specs.SiteContent.{SiteContent}
use Rattle.site.specs.Locks.{leaves_in}
use Rattle.site.specs.State.{AreHad}
use Rattle.world.specs.Leaves.{known_leaves}
use Rattle.history.specs.SiteHistory.{SiteHistory}

-- each store that is clean has the leaves that the relations of a catalogue can have
abbrev pub HaveLeaves : {S : Type 0} → (S → Type 0) → (S → SiteContent) → Catalogue → List S → Type 0
HaveLeaves is_clean kept catalogue stores = AllByRecursion (λ store. is_clean store → AreHad (known_leaves (schemas_of catalogue)) (kept store)) stores

-- the cell of a site of this name, which knows those leaves: no call has been made
pub record IsFresh {S : Type 0} (catalogue : Catalogue) (name : List ℕ) (cell : SiteHistory S) : Type 0 where
  pub called : cell.site.volatile.name ≡ name
  pub leaves : leaves_in cell.site.volatile.locks.items ≡ known_leaves (schemas_of catalogue)
  pub entries : cell.entries ≡ []

-- so of the sites of these names
abbrev pub AreFresh : {S : Type 0} → Catalogue → List (List ℕ) → List (SiteHistory S) → Type 0
AreFresh catalogue [] [] = ⊤
AreFresh catalogue [] (cell ∷ cells) = ⊥
AreFresh catalogue (name ∷ names) [] = ⊥
AreFresh catalogue (name ∷ names) (cell ∷ cells) = IsFresh catalogue name cell × AreFresh catalogue names cells
