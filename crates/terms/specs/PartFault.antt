-- Faults of stored parts: their names and numbers.
use Rattle.std.specs.Prelude.{ℕ, List, codes}
use Rattle.terms.specs.declared.part_fault.PartFault.{PartFault}
use Rattle.terms.specs.declared.part_fault.PartFault.TheVariants.{Truncated, BadTag, BadText, Trailing, Memory}

abbrev pub part_fault_name : PartFault → List ℕ
part_fault_name Truncated = codes "Truncated"
part_fault_name BadTag = codes "BadTag"
part_fault_name BadText = codes "BadText"
part_fault_name Trailing = codes "Trailing"
part_fault_name Memory = codes "Memory"

abbrev pub part_fault_number : PartFault → ℕ
part_fault_number Truncated = 1
part_fault_number BadTag = 2
part_fault_number BadText = 3
part_fault_number Trailing = 4
part_fault_number Memory = 5
