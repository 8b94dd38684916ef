-- Refusals of a text.
use Rattle.std.specs.Prelude.{ℕ}
use Rattle.reader.specs.declared.fault.Rule.{Rule}
use Rattle.reader.specs.declared.fault.Rule.TheVariants as rules

-- the rule that a text breaks, and the byte at which it does
pub record Fault : Type 0 where
  pub rule : Rule
  pub offset : ℕ

-- what is answered where memory runs out
abbrev pub memory_fault : Fault
memory_fault = record { rule = rules.Memory; offset = 0 }
