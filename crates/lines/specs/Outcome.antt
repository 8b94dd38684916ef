-- The exit status of an outcome, and what is told of it.
use Rattle.std.specs.Prelude.{ℕ, List, [], ◌∷◌, ◌++◌, codes}
use Rattle.catalog.specs.Fault as refusal
use Rattle.reader.specs.Refusal as reading
use Rattle.lines.specs.declared.fault.ProgramFault.{ProgramFault}
use Rattle.lines.specs.declared.fault.ProgramFault.TheVariants.{CannotRead, ScriptTooLong, Malformed, Memory, Store, CannotWrite}
use Rattle.lines.specs.declared.outcome.Outcome.{Outcome}
use Rattle.lines.specs.declared.outcome.Outcome.TheVariants.{Done, Lost, SomeRefused, Refused, Unchained, RefusedStatement, Stopped}
use Rattle.lines.specs.declared.outcome.Status.{Status}
use Rattle.lines.specs.declared.outcome.Status.TheVariants as status
use Rattle.lines.specs.Fault.{fault_text}

abbrev pub code_of : Status → ℕ
code_of status.Done = 0
code_of status.Refused = 1
code_of status.Usage = 2
code_of status.Store = 3
code_of status.Memory = 4

-- the status of a command that stopped: want of memory and a store that failed are told apart from all else
abbrev pub status_of_fault : ProgramFault → Status
status_of_fault (CannotRead file) = status.Refused
status_of_fault ScriptTooLong = status.Refused
status_of_fault (Malformed line) = status.Refused
status_of_fault Memory = status.Memory
status_of_fault (Store fault) = status.Store
status_of_fault CannotWrite = status.Refused

abbrev pub status_of : Outcome → Status
status_of Done = status.Done
status_of SomeRefused = status.Refused
status_of (Refused fault) = status.Refused
status_of Unchained = status.Refused
status_of (RefusedStatement fault) = status.Refused
status_of (Stopped fault) = status_of_fault fault
status_of Lost = status.Refused

-- a line of the program's own
abbrev pub fault_line : ProgramFault → List ℕ
fault_line fault = codes "fragdb: " ++ fault_text fault ++ 10 ∷ []

-- what is told of a command that stopped: nothing where nobody reads
abbrev pub stop_text : ProgramFault → List ℕ
stop_text (CannotRead file) = fault_line (CannotRead file)
stop_text ScriptTooLong = fault_line ScriptTooLong
stop_text (Malformed line) = fault_line (Malformed line)
stop_text Memory = fault_line Memory
stop_text (Store fault) = fault_line (Store fault)
stop_text CannotWrite = []

-- what is told of an outcome
abbrev pub told_text : Outcome → List ℕ
told_text Done = []
told_text SomeRefused = []
told_text (Refused fault) = codes "refused " ++ refusal.fault_text fault ++ 10 ∷ []
told_text Unchained = codes "fragdb: refused 11 Chain" ++ 10 ∷ []
told_text (RefusedStatement fault) = codes "refused read " ++ reading.fault_text fault ++ 10 ∷ []
told_text (Stopped fault) = stop_text fault
told_text Lost = codes "fragdb: refused 9 Closed" ++ 10 ∷ []
