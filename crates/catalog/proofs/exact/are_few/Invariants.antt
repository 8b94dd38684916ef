use Rattle.std.proofs.Common.{◌≤◌, ◌↔◌, ◌*◌, drop}
use Rattle.catalog.specs.Cells.{cell_count}
use Rattle.catalog.proofs.exact.are_few.Given as goal

abbrev pub invariant-loop-values : goal.invariant-loop-values
invariant-loop-values l = (l.cells * cell_count (drop l.values-index l.columns) ≤ 4096) ↔ (cell_count l.columns ≤ 4096)
