-- Faults of a site: their names and numbers.
use Rattle.std.specs.Prelude.{◌≡◌, ◌⊎◌, ℕ, List, codes}
use Rattle.store.specs.declared.fault.StoreFault.{StoreFault}
use Rattle.store.specs.declared.fault.StoreFault.TheVariants as store
use Rattle.site.specs.declared.fault.SiteFault.{SiteFault}
use Rattle.site.specs.declared.fault.SiteFault.TheVariants.{Memory, Store, Full, Stranger}

abbrev pub fault_name : SiteFault → List ℕ
fault_name Memory = codes "Memory"
fault_name (Store fault) = codes "Store"
fault_name Full = codes "Full"
fault_name Stranger = codes "Stranger"

abbrev pub fault_number : SiteFault → ℕ
fault_number Memory = 1
fault_number (Store fault) = 2
fault_number Full = 3
fault_number Stranger = 4

-- a store's fault as the site's
abbrev pub fault_of : StoreFault → SiteFault
fault_of store.Memory = Memory
fault_of store.Refused = Store store.Refused
fault_of store.Damaged = Store store.Damaged

-- why a life doesn't begin: want of memory, no life left, or the store refused, or has rows that aren't this site's
abbrev pub StopsStart : SiteFault → Type 0
StopsStart fault = (fault ≡ Memory) ⊎ (fault ≡ Full) ⊎ (fault ≡ Store store.Refused) ⊎ (fault ≡ Store store.Damaged)
