use Rattle.std.proofs.Common.{◌≡◌, ◌*◌, ◌+◌, ◌∷◌, length, drop}
use Rattle.catalog.specs.Cells.{first_fault_behind, values_of}
use Rattle.catalog.proofs.exact.+cells.Given as goal

-- from the columns to those behind the first

abbrev pub decreases-seek_fault : goal.decreases-seek_fault
decreases-seek_fault l = 2 * length l.columns.now

abbrev pub decreases-seek_fault_with : goal.decreases-seek_fault_with
decreases-seek_fault_with l = 2 * length l.columns.now + 1

-- with the values so far there is no fault
abbrev pub invariant-seek_fault-loop-value : goal.invariant-seek_fault-loop-value
invariant-seek_fault-loop-value l = record {
  row : l.row.items ≡ l.initial.row.items;
  first : first_fault_behind l.way l.branches (values_of l.initial.row.items) (drop l.value-index l.value-items ∷ l.rest) ≡ first_fault_behind l.way l.branches (values_of l.initial.row.items) (l.value-items ∷ l.rest);
}
