-- How often stores have refused, before something and after it.
use Rattle.std.specs.Prelude.{◌≤◌, ◌⊎◌, ℕ, List, [], ◌∷◌, map}
use Rattle.std.specs.List.{AllZip}
use Rattle.store.specs.Fault.{HasRefused}
use Rattle.protocol.specs.Language.{Lang}
use Rattle.site.specs.declared.site.Site.{Site}
use Rattle.world.specs.declared.machines.Machines as code
use Rattle.protocol.specs.Delivery.{AllKept, Coming}

-- how often the medium of each site's store has refused
abbrev pub counts_of : {S : Type 0} → (S → ℕ) → List (Site S) → List ℕ
counts_of of_site sites = map (λ site. of_site site.store) sites

-- so of the machines' stores, the coordinator's first
abbrev pub counts : {D S : Type 0} → (D → ℕ) → (S → ℕ) → code.Machines D S → List ℕ
counts of_desk of_site machines = of_desk machines.desk.store ∷ map (λ site. of_site site.store) machines.sites.items

-- each count is at most the later one
abbrev pub NoFewer : List ℕ → List ℕ → Type 0
NoFewer before after = AllZip (λ (count now : ℕ). count ≤ now) before after

-- one of the stores has refused
abbrev pub HaveRefused : List ℕ → List ℕ → Type 0
HaveRefused [] after = ⊥
HaveRefused (count ∷ before) [] = ⊥
HaveRefused (count ∷ before) (now ∷ after) = HasRefused count now ⊎ HaveRefused before after

-- each store call was kept, unless one of the stores has refused
abbrev pub KeptUnless : {L : Lang} → List (Coming L) → List ℕ → List ℕ → Type 0
KeptUnless comings before after = AllKept comings ⊎ HaveRefused before after
