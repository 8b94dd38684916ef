-- Faults that are want of memory, and why what is kept can't be shown.
use Rattle.std.specs.Prelude.{◌≡◌, ◌⊎◌, ℕ, Bool, true, false, List}
use Rattle.store.specs.declared.fault.StoreFault.TheVariants as store_faults
use Rattle.desk.specs.declared.refusal.Refusal.TheVariants as refusals
use Rattle.site.specs.declared.fault.SiteFault.TheVariants as site_faults
use Rattle.world.specs.declared.fault.Fault as faults
use Rattle.world.specs.declared.fault.Fault.TheVariants.{Desk, Site}
use Rattle.world.specs.Counted.{HaveRefused}

abbrev pub is_memory : faults.Fault → Bool
is_memory (Desk refusals.Memory) = true
is_memory (Site site_faults.Memory) = true
is_memory other = false

-- whether it is that the medium of a store refused
abbrev pub is_of_medium : faults.Fault → Bool
is_of_medium (Desk (refusals.Store store_faults.Refused)) = true
is_of_medium (Site (site_faults.Store store_faults.Refused)) = true
is_of_medium other = false

-- why what is kept can't be shown: memory ran out, or the medium of one of the stores has refused meanwhile. before, after: how often the media have refused
abbrev pub FailsFor : (before after : List ℕ) → faults.Fault → Type 0
FailsFor before after fault = (is_memory fault ≡ true) ⊎ ((is_of_medium fault ≡ true) × HaveRefused before after)
