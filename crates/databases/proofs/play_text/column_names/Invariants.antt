use Rattle.std.proofs.Common.{◌≡◌, take}
use Rattle.lines.specs.Check.{names_of_columns}
use Rattle.databases.proofs.play_text.column_names.Given as goal

abbrev pub invariant-loop-column : goal.invariant-loop-column
invariant-loop-column l = l.names.items ≡ names_of_columns (take l.column-index l.columns)
