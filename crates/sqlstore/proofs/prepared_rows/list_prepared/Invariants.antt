-- What each round of `prepared_rows::list_prepared` keeps.
use Rattle.std.proofs.Common.{◌≡◌, ◌++◌}
use Rattle.store.specs.RowList.{rows_of}
use Rattle.sqlstore.proofs.prepared_rows.list_prepared.Given as goal

-- what is listed, and what is left to list, are all
abbrev pub invariant-loop-ticket : goal.invariant-loop-ticket
invariant-loop-ticket l = l.rows.items ++ rows_of l.ticket-iterator ≡ rows_of l.map.entries
