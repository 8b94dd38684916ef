-- Refusals of the coordinator: their names and numbers, the least of which answers where several come together.
use Rattle.std.specs.Prelude.{ℕ, List, codes}
use Rattle.store.specs.declared.fault.StoreFault.{StoreFault}
use Rattle.store.specs.declared.fault.StoreFault.TheVariants as store
use Rattle.desk.specs.declared.refusal.Refusal as refusals
use Rattle.desk.specs.declared.refusal.Refusal.TheVariants.{NoTransaction, Busy, Ended, Full, Read, Aborted, Memory, Store, NotAlone, NoNext, Chain}

abbrev pub refusal_name : refusals.Refusal → List ℕ
refusal_name NoTransaction = codes "NoTransaction"
refusal_name Busy = codes "Busy"
refusal_name Ended = codes "Ended"
refusal_name Full = codes "Full"
refusal_name (Read fault) = codes "Read"
refusal_name (Aborted why) = codes "Aborted"
refusal_name Memory = codes "Memory"
refusal_name (Store fault) = codes "Store"
refusal_name NotAlone = codes "NotAlone"
refusal_name NoNext = codes "NoNext"
refusal_name Chain = codes "Chain"

abbrev pub refusal_number : refusals.Refusal → ℕ
refusal_number NoTransaction = 1
refusal_number Busy = 2
refusal_number Ended = 3
refusal_number Full = 4
refusal_number (Read fault) = 5
refusal_number (Aborted why) = 6
refusal_number Memory = 7
refusal_number (Store fault) = 8
refusal_number NotAlone = 9
refusal_number NoNext = 10
refusal_number Chain = 11

-- a store's fault as the coordinator's
abbrev pub refusal_of : StoreFault → refusals.Refusal
refusal_of store.Memory = Memory
refusal_of store.Refused = Store store.Refused
refusal_of store.Damaged = Store store.Damaged
