-- Faults of stores: their names, and when the medium has refused.
use Rattle.std.specs.Prelude.{◌≡◌, ◌<◌, ◌⊎◌, ◌^◌, ◌-◌, ℕ, List, codes}
use Rattle.store.specs.declared.fault.StoreFault.{StoreFault}
use Rattle.store.specs.declared.fault.StoreFault.TheVariants.{Memory, Refused, Damaged}

abbrev pub fault_name : StoreFault → List ℕ
fault_name Memory = codes "Memory"
fault_name Refused = codes "Refused"
fault_name Damaged = codes "Damaged"

abbrev pub fault_number : StoreFault → ℕ
fault_number Memory = 1
fault_number Refused = 2
fault_number Damaged = 3

-- the count of refusals grew, or stands at the greatest of 64 bits
abbrev pub HasRefused : ℕ → ℕ → Type 0
HasRefused before after = (before < after) ⊎ (after ≡ 2 ^ 64 - 1)
