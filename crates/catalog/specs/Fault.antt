-- The numbers and names of rules, and the text of a refusal.
use Rattle.std.specs.Prelude.{ℕ, List, [], ◌∷◌, ◌++◌, Option, Some, None, codes}
use Rattle.std.specs.Fmt.{decimal}
use Rattle.reader.specs.PrintStatement.{constant_bytes, separated_bytes}
use Rattle.reader.specs.Written.{constant_as}
use Rattle.catalog.specs.declared.fault.Cell.{Cell}
use Rattle.catalog.specs.declared.fault.Shown.{Shown}
use Rattle.catalog.specs.declared.fault.Rule.{Rule}
use Rattle.catalog.specs.declared.fault.Rule.TheVariants.{Toml, Field, Name, Twice, NoSite, KeyType, ColumnTwice, ColumnLost, ColumnAbsent, WrongType, Gap, Overlap, Limit, Memory}

abbrev pub rule_number : Rule → ℕ
rule_number Toml = 1
rule_number Field = 2
rule_number Name = 3
rule_number Twice = 4
rule_number NoSite = 5
rule_number KeyType = 6
rule_number ColumnTwice = 7
rule_number ColumnLost = 8
rule_number ColumnAbsent = 9
rule_number WrongType = 10
rule_number (Gap cell) = 11
rule_number (Overlap cell) = 12
rule_number Limit = 13
rule_number Memory = 14

abbrev pub rule_name : Rule → List ℕ
rule_name Toml = codes "Toml"
rule_name Field = codes "Field"
rule_name Name = codes "Name"
rule_name Twice = codes "Twice"
rule_name NoSite = codes "NoSite"
rule_name KeyType = codes "KeyType"
rule_name ColumnTwice = codes "ColumnTwice"
rule_name ColumnLost = codes "ColumnLost"
rule_name ColumnAbsent = codes "ColumnAbsent"
rule_name WrongType = codes "Type"
rule_name (Gap cell) = codes "Gap"
rule_name (Overlap cell) = codes "Overlap"
rule_name Limit = codes "Limit"
rule_name Memory = codes "Memory"

-- a column and its value, as in a condition
abbrev pub shown_text : Shown → List ℕ
shown_text shown = shown.column ++ codes " = " ++ constant_bytes (constant_as shown.value)

-- what tells a cell from the others
abbrev pub cell_text : Cell → List ℕ
cell_text cell = separated_bytes shown_text (codes ", ") cell.shown

-- the relation in which a rule is broken, if it is in one
abbrev pub relation_text : Option (List ℕ) → List ℕ
relation_text None = []
relation_text (Some relation) = 32 ∷ relation

-- the cell that shows a gap or an overlap
abbrev pub witness_text : Rule → List ℕ
witness_text (Gap cell) = 32 ∷ cell_text cell
witness_text (Overlap cell) = 32 ∷ cell_text cell
witness_text _ = []

-- the rule that a catalogue breaks, and the relation in which it does, if it is in one
pub record Fault : Type 0 where
  pub rule : Rule
  pub relation : Option (List ℕ)

-- a refusal in messages, as `11 Gap emp dept = 10`
abbrev pub fault_text : Fault → List ℕ
fault_text fault = decimal (rule_number fault.rule) ++ 32 ∷ rule_name fault.rule ++ relation_text fault.relation ++ witness_text fault.rule
