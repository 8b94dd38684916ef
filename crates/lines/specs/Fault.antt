-- Why a command stops, in words.
use Rattle.std.specs.Prelude.{ℕ, List, ◌++◌, codes}
use Rattle.std.specs.Fmt.{decimal}
use Rattle.store.specs.Fault.{fault_name, fault_number}
use Rattle.lines.specs.declared.fault.ProgramFault.{ProgramFault}
use Rattle.lines.specs.declared.fault.ProgramFault.TheVariants.{CannotRead, ScriptTooLong, Malformed, Memory, Store, CannotWrite}
use Rattle.lines.specs.declared.script.ScriptFault.{ScriptFault}
use Rattle.lines.specs.declared.script.ScriptFault.TheVariants as script

-- what is said of a fault
abbrev pub fault_text : ProgramFault → List ℕ
fault_text (CannotRead file) = codes "cannot read " ++ file.now
fault_text ScriptTooLong = codes "script too long"
fault_text (Malformed line) = codes "line " ++ decimal line
fault_text Memory = codes "out of memory"
fault_text (Store fault) = codes "store " ++ decimal (fault_number fault) ++ codes " " ++ fault_name fault
fault_text CannotWrite = codes "cannot write"

abbrev pub fault_of_script : ScriptFault → ProgramFault
fault_of_script (script.Malformed line) = Malformed line
fault_of_script script.Memory = Memory
