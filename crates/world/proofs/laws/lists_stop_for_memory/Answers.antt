-- Why `laws::lists_stop_for_memory` meets its contract.
use Rattle.std.proofs.Common.{◌≡◌, ◌<◌, ◌⊎◌, ◌-◌, ◌^◌, ℕ, List, [], ◌∷◌, true, inl, inr, refl, arith}
use Rattle.store.specs.declared.fault.StoreFault.TheVariants as faults
use Rattle.site.specs.declared.site.Site.{Site}
use Rattle.desk.specs.declared.refusal.Refusal.{Refusal}
use Rattle.desk.specs.declared.refusal.Refusal.TheVariants.{Aborted, Busy, Chain, Ended, Full, Memory, NoNext, NoTransaction, NotAlone, Read, Store}
use Rattle.world.specs.declared.machines.Machines as code
use Rattle.world.specs.Counted.{HaveRefused, counts, counts_of}
use Rattle.world.specs.Stopping.{StopsFor, is_stop}
use Rattle.world.proofs.laws.lists_stop_for_memory.Goals as goal

-- one that is at nothing before and after has refused nothing
never : (0 < 0) ⊎ (0 ≡ 2 ^ 64 - 1) → ⊥
never (inl more) = grind (arith)
never (inr top) = grind (arith)

sites_never : {S : Type 0} (before after : List (Site S)) → HaveRefused (counts_of (λ _. 0) before) (counts_of (λ _. 0) after) → ⊥
sites_never [] after refused = refused
sites_never (site ∷ before) [] refused = refused
sites_never (site ∷ before) (now ∷ after) (inl here) = never here
sites_never (site ∷ before) (now ∷ after) (inr there) = sites_never before after there

all_never : {D S : Type 0} (before after : code.Machines D S) → HaveRefused (counts (λ _. 0) (λ _. 0) before) (counts (λ _. 0) (λ _. 0) after) → ⊥
all_never before after (inl here) = never here
all_never before after (inr there) = sites_never before.sites.items after.sites.items there

-- of what may stop a database only memory is left
memory_left : (before after : List ℕ) → (HaveRefused before after → ⊥) → (told : Refusal) → StopsFor before after told → is_stop told ≡ true → told ≡ Memory
memory_left before after never NoTransaction why stops = absurd (cc)
memory_left before after never Busy why stops = absurd (cc)
memory_left before after never Ended why stops = absurd (cc)
memory_left before after never Full why stops = absurd (cc)
memory_left before after never (Read fault) why stops = absurd (cc)
memory_left before after never (Aborted reason) why stops = absurd (cc)
memory_left before after never Memory why stops = refl
memory_left before after never NotAlone why stops = absurd (cc)
memory_left before after never NoNext why stops = absurd (cc)
memory_left before after never Chain why stops = absurd (cc)
memory_left before after never (Store faults.Refused) why stops = absurd (never why)
memory_left before after never (Store faults.Memory) why stops = absurd why
memory_left before after never (Store faults.Damaged) why stops = absurd why

pub returns : goal.returns
returns c = λ before after.
    let unrefused = all_never before after in
    record { unrefused = unrefused; memory = memory_left (counts (λ _. 0) (λ _. 0) before) (counts (λ _. 0) (λ _. 0) after) unrefused }
