-- What each round of `recovery::rows_in_order` keeps.
use Rattle.std.proofs.Common.{◌≡◌, ◌++◌, map, drop}
use Rattle.desk.specs.Recovery.{row_in_order}
use Rattle.desk.proofs.recovery.rows_in_order.Given as goal

-- the rows so far, and those of the rest, are all
abbrev pub invariant-loop-row : goal.invariant-loop-row
invariant-loop-row l = l.ordered.items ++ map (row_in_order l.sites) (drop l.row-index l.rows) ≡ map (row_in_order l.sites) l.rows
