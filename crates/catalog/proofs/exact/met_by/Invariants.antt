use Rattle.std.proofs.Common.{◌≡◌, ◌+◌, ◌≤◌, drop}
use Rattle.catalog.specs.Cells.{met_by, values_of}
use Rattle.catalog.proofs.exact.met_by.Given as goal

abbrev pub invariant-loop-conds : goal.invariant-loop-conds
invariant-loop-conds l = record { so_far : l.met + met_by (drop l.conds-index l.branches) (values_of l.cell) ≡ met_by l.branches (values_of l.cell); few : l.met ≤ l.conds-index }
