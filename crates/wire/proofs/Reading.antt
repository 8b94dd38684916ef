-- What the reader says of a text, as a session's fault.
use Rattle.std.proofs.Common.{◌≡◌, ◌≢◌, ◌⊎◌, ℕ, List, inl, inr, ⊎_elim}
use Rattle.meaning.specs.declared.schema.RelationSchema.{RelationSchema}
use Rattle.reader.specs.declared.command.Command.{Command}
use Rattle.reader.specs.declared.command.Command.TheVariants.{Commit, Rollback}
use Rattle.reader.specs.declared.fault.Rule.TheVariants as rules
use Rattle.reader.specs.Command.{IsTextOf}
use Rattle.reader.specs.Fault.{Fault}
use Rattle.wire.specs.declared.fault.CallFault.{CallFault}
use Rattle.wire.specs.declared.fault.CallFault.TheVariants as faults
use Rattle.wire.specs.Fault.{IsUnread, ReadsAs}

-- a text that isn't read is no command's, or memory ran out
pub unread_of : (schema : List RelationSchema) (text : List ℕ) (fault : Fault) (told : CallFault) → ReadsAs fault told → (fault.rule ≢ rules.Memory → (command : Command) → IsTextOf schema text command → ⊥) → IsUnread schema text told
unread_of schema text fault told reads none = ⊎_elim (λ memory. inl memory.1) (λ read. inr (record { fault = fault; told_is = read.1; none = none read.0 })) reads

-- a text that isn't read, though it is a command's, found no memory
pub no_memory : (schema : List RelationSchema) (text : List ℕ) (told : CallFault) → IsUnread schema text told → (command : Command) → IsTextOf schema text command → told ≡ faults.Memory
no_memory schema text told unread command spelled = ⊎_elim (λ memory. memory) (λ none. absurd (none.none command spelled)) unread

-- a text that isn't read, though it is one of COMMIT or ROLLBACK, found no memory
pub only_memory : (schema : List RelationSchema) (text : List ℕ) (told : CallFault) → IsUnread schema text told → IsTextOf schema text Commit ⊎ IsTextOf schema text Rollback → told ≡ faults.Memory
only_memory schema text told unread spelled = ⊎_elim (λ memory. memory) (λ no. absurd (⊎_elim (λ commits. no.none Commit commits) (λ rolls_back. no.none Rollback rolls_back) spelled)) unread
