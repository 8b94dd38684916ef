-- Faults of a session's call: their names and numbers, and how they come of refusals.
use Rattle.std.specs.Prelude.{◌≡◌, ◌≢◌, ◌⊎◌, ℕ, Bool, true, false, List, codes}
use Rattle.meaning.specs.declared.schema.RelationSchema.{RelationSchema}
use Rattle.reader.specs.declared.command.Command.{Command}
use Rattle.reader.specs.Command.{IsTextOf}
use Rattle.reader.specs.Fault.{Fault}
use Rattle.reader.specs.declared.fault.Rule.TheVariants as rules
use Rattle.desk.specs.declared.refusal.Refusal as refusals
use Rattle.desk.specs.declared.refusal.Refusal.TheVariants as refusal
use Rattle.world.specs.declared.fault.Fault as machine_faults
use Rattle.world.specs.declared.fault.Fault.TheVariants as machine
use Rattle.wire.specs.declared.fault.CallFault as faults
use Rattle.wire.specs.declared.fault.CallFault.TheVariants.{NoTransaction, Busy, Ended, Full, Read, Aborted, Memory, Store, Closed, NotAlone, NoNext, Chain}

abbrev pub call_name : faults.CallFault → List ℕ
call_name NoTransaction = codes "NoTransaction"
call_name Busy = codes "Busy"
call_name Ended = codes "Ended"
call_name Full = codes "Full"
call_name (Read fault) = codes "Read"
call_name (Aborted why) = codes "Aborted"
call_name Memory = codes "Memory"
call_name (Store fault) = codes "Store"
call_name Closed = codes "Closed"
call_name NotAlone = codes "NotAlone"
call_name NoNext = codes "NoNext"
call_name Chain = codes "Chain"

abbrev pub call_number : faults.CallFault → ℕ
call_number NoTransaction = 1
call_number Busy = 2
call_number Ended = 3
call_number Full = 4
call_number (Read fault) = 5
call_number (Aborted why) = 6
call_number Memory = 7
call_number (Store fault) = 8
call_number Closed = 9
call_number NotAlone = 10
call_number NoNext = 11
call_number Chain = 12

-- a refusal of the coordinator as a session's fault
abbrev pub refused_call : refusals.Refusal → faults.CallFault
refused_call refusal.NoTransaction = NoTransaction
refused_call refusal.Busy = Busy
refused_call refusal.Ended = Ended
refused_call refusal.Full = Full
refused_call (refusal.Read fault) = Read fault
refused_call (refusal.Aborted why) = Aborted why
refused_call refusal.Memory = Memory
refused_call (refusal.Store fault) = Store fault
refused_call refusal.NotAlone = NotAlone
refused_call refusal.NoNext = NoNext
refused_call refusal.Chain = Chain

-- what an entry of the coordinator was refused for, as a session's fault
abbrev pub told_call : machine_faults.Fault → faults.CallFault
told_call (machine.Desk refusal) = refused_call refusal
told_call (machine.Site fault) = Closed
told_call machine.Unsent = Closed

-- whether a fault tells that a transaction aborted
abbrev pub is_abort : faults.CallFault → Bool
is_abort (Aborted why) = true
is_abort other = false

-- what a command is told that has no place in a transaction: that this is busy, unless it has aborted or memory ran out
abbrev pub IsBusy : faults.CallFault → Type 0
IsBusy told = (told ≡ Busy) ⊎ (told ≡ Memory) ⊎ (is_abort told ≡ true)

-- what the reader says of a text, as a session's fault
abbrev pub ReadsAs : Fault → faults.CallFault → Type 0
ReadsAs fault told = ((fault.rule ≡ rules.Memory) × (told ≡ Memory)) ⊎ ((fault.rule ≢ rules.Memory) × (told ≡ Read fault))

-- a text is no command's, as the reader says
pub record IsNoCommand (schema : List RelationSchema) (text : List ℕ) (told : faults.CallFault) : Type 0 where
  pub fault : Fault
  pub told_is : told ≡ Read fault
  pub none : (command : Command) → IsTextOf schema text command → ⊥

-- why a text isn't read: memory ran out, or it is no command's
abbrev pub IsUnread : List RelationSchema → List ℕ → faults.CallFault → Type 0
IsUnread schema text told = (told ≡ Memory) ⊎ IsNoCommand schema text told
