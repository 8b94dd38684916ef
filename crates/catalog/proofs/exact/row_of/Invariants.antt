use Rattle.std.proofs.Common.{◌≡◌, take}
use Rattle.catalog.specs.Cells.{values_of}
use Rattle.catalog.proofs.exact.row_of.Given as goal

abbrev pub invariant-loop-value : goal.invariant-loop-value
invariant-loop-value l = l.values.items ≡ values_of (take l.value-index l.cell)
