-- What each round of `plain_site::list_rows` keeps.
use Rattle.std.proofs.Common.{◌≡◌, ◌++◌}
use Rattle.store.specs.RowList.{rows_of}
use Rattle.store.proofs.plain_site.list_rows.Given as goal

-- what is listed, and what is left to list, are all
abbrev pub invariant-loop-ticket : goal.invariant-loop-ticket
invariant-loop-ticket l = l.rows.items ++ rows_of l.ticket-iterator ≡ rows_of l.prepared.entries
