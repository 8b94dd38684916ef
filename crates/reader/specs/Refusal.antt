-- How refusals are printed.
use Rattle.std.specs.Prelude.{ℕ, List, ◌∷◌, ◌++◌, codes}
use Rattle.std.specs.Fmt.{decimal}
use Rattle.reader.specs.declared.fault.Rule.{Rule}
use Rattle.reader.specs.declared.fault.Rule.TheVariants as rules
use Rattle.reader.specs.Fault.{Fault}

-- a rule's number in messages
abbrev pub rule_number : Rule → ℕ
rule_number rules.TooLong = 1
rule_number rules.Character = 2
rule_number rules.Syntax = 3
rule_number rules.NoRelation = 4
rule_number rules.NoColumn = 5
rule_number rules.Ambiguous = 6
rule_number rules.WrongType = 7
rule_number rules.KeyColumn = 8
rule_number rules.JoinNotKey = 9
rule_number rules.Count = 10
rule_number rules.Limit = 11
rule_number rules.Memory = 12

-- a rule's name in messages
abbrev pub rule_name : Rule → List ℕ
rule_name rules.TooLong = codes "TooLong"
rule_name rules.Character = codes "Character"
rule_name rules.Syntax = codes "Syntax"
rule_name rules.NoRelation = codes "NoRelation"
rule_name rules.NoColumn = codes "NoColumn"
rule_name rules.Ambiguous = codes "Ambiguous"
rule_name rules.WrongType = codes "Type"
rule_name rules.KeyColumn = codes "KeyColumn"
rule_name rules.JoinNotKey = codes "JoinNotKey"
rule_name rules.Count = codes "Count"
rule_name rules.Limit = codes "Limit"
rule_name rules.Memory = codes "Memory"

-- a fault in messages, as `3 Syntax at 24`
abbrev pub fault_text : Fault → List ℕ
fault_text fault = decimal (rule_number fault.rule) ++ 32 ∷ rule_name fault.rule ++ codes " at " ++ decimal fault.offset
