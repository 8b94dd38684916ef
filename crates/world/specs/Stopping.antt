-- What stops one client's database.
use Rattle.std.specs.Prelude.{◌≡◌, ⊤, ℕ, Bool, true, false, List, Option, Some, None, Result, Ok, Err, if◌then◌else◌}
use Rattle.store.specs.declared.fault.StoreFault.TheVariants as faults
use Rattle.desk.specs.declared.refusal.Refusal.{Refusal}
use Rattle.desk.specs.declared.refusal.Refusal.TheVariants.{Aborted, Busy, Chain, Ended, Full, Memory, NoNext, NoTransaction, NotAlone, Read, Store}
use Rattle.world.specs.declared.machines.Machines as code
use Rattle.world.specs.Counted.{HaveRefused, counts}

-- whether a refusal does: memory ran out, or a store failed
abbrev pub is_stop : Refusal → Bool
is_stop NoTransaction = false
is_stop Busy = false
is_stop Ended = false
is_stop Full = false
is_stop (Read fault) = false
is_stop (Aborted why) = false
is_stop Memory = true
is_stop (Store fault) = true
is_stop NotAlone = false
is_stop NoNext = false
is_stop Chain = false

-- why a refusal stops it: memory ran out, or the medium of one of its stores has refused meanwhile; one that doesn't stop it needs no reason. before, after: how often the media have refused
abbrev pub StopsFor : (before after : List ℕ) → Refusal → Type 0
StopsFor before after NoTransaction = ⊤
StopsFor before after Busy = ⊤
StopsFor before after Ended = ⊤
StopsFor before after Full = ⊤
StopsFor before after (Read fault) = ⊤
StopsFor before after (Aborted why) = ⊤
StopsFor before after Memory = ⊤
StopsFor before after NotAlone = ⊤
StopsFor before after NoNext = ⊤
StopsFor before after Chain = ⊤
StopsFor before after (Store faults.Refused) = HaveRefused before after
StopsFor before after (Store faults.Memory) = ⊥
StopsFor before after (Store faults.Damaged) = ⊥

-- what has stopped it after a command
abbrev pub stopped_by : {T : Type 0} → Result T Refusal → Option Refusal
stopped_by (Ok told) = None
stopped_by (Err refusal) = if is_stop refusal then Some refusal else None

-- where no medium ever refuses, as over lists, nothing is refused by one, and want of memory alone stops a database. before, after: its machines
pub record StopsForMemory {D S : Type 0} (before after : code.Machines D S) : Type 0 where
  pub unrefused : HaveRefused (counts (λ _. 0) (λ _. 0) before) (counts (λ _. 0) (λ _. 0) after) → ⊥
  pub memory : (told : Refusal) → StopsFor (counts (λ _. 0) (λ _. 0) before) (counts (λ _. 0) (λ _. 0) after) told → is_stop told ≡ true → told ≡ Memory
