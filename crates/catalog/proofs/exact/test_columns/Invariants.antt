use Rattle.std.proofs.Common.{take}
use Rattle.catalog.specs.Cells.{AreTestColumns}
use Rattle.catalog.proofs.exact.test_columns.Given as goal

abbrev pub invariant-loop-col : goal.invariant-loop-col
invariant-loop-col l = AreTestColumns l.conds 0 (take l.col l.kinds) l.columns.items
