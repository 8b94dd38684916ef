use Rattle.std.proofs.Common.{◌≡◌, take}
use Rattle.catalog.specs.Cells.{on_way}
use Rattle.catalog.proofs.exact.columns_on_way.Given as goal

abbrev pub invariant-loop-col : goal.invariant-loop-col
invariant-loop-col l = l.kept.items ≡ on_way l.way 0 (take l.col l.columns)
