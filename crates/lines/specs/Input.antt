-- Faults of reading and of writing.
use Rattle.std.specs.Prelude.{◌≡◌, ◌⊎◌, ℕ, List}
use Rattle.std.specs.Borrow.{Bor}
use Rattle.lines.specs.declared.fault.ProgramFault.{ProgramFault}
use Rattle.lines.specs.declared.fault.ProgramFault.TheVariants.{CannotRead, CannotWrite, Memory}

-- a fault that may come while this file is read
abbrev pub IsOfInput : Bor (List ℕ) → ProgramFault → Type 0
IsOfInput file fault = (fault ≡ Memory) ⊎ (fault ≡ CannotRead file)

-- a fault that may come while an answer is put together and written
abbrev pub IsOfOutput : ProgramFault → Type 0
IsOfOutput fault = (fault ≡ Memory) ⊎ (fault ≡ CannotWrite)
