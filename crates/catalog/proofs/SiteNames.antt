-- The names of sites, as a loop goes over them.
use Rattle.std.proofs.Common.{◌≡◌, ℕ, ◌<◌, List, map, take, length, get_or}
use Rattle.catalog.specs.Catalogue.{IsSiteName}
use Rattle.catalog.specs.Sites.{AreSites, RefusesSites, IsNextSite, RefusesNextSite}
use Rattle.catalog.proofs.Refusals.{refuses_also}
use Rattle.catalog.specs.declared.fault.Rule.{Rule}
use Rattle.catalog.proofs.Distinct.{all_at, new_at}

-- each of a catalogue's sites is one behind those before it
pub next_of_sites : {A : Type 0} (view : A → List ℕ) (texts : List A) (i : ℕ) (d x : A) (before : List (List ℕ)) → x ≡ get_or texts i d → i < length texts →
    before ≡ map view (take i texts) → AreSites (map view texts) → IsNextSite before (view x)
next_of_sites view texts i d x before is within so_far sites = rw (so_far, is) (record {
  name = all_at IsSiteName view texts i d within sites.names;
  new = new_at view texts i d within sites.distinct;
})

-- a site that is refused, and what that says of all
pub refuses_sites : (sites before : List (List ℕ)) (site : List ℕ) (rule : Rule) → (AreSites sites → IsNextSite before site) → RefusesNextSite before site rule → RefusesSites sites rule
refuses_sites sites before site rule next refused = refuses_also ⊥ (IsNextSite before site → ⊥) (AreSites sites → ⊥) rule (λ none are. none (next are)) refused
