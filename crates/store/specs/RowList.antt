-- The lists of the rows of maps, which a reader may skip.
use Rattle.std.specs.Prelude.{List, map}
use Rattle.store.specs.declared.commit.CommitRow.{CommitRow}
use Rattle.store.specs.declared.commit.Voter.{Voter}
use Rattle.store.specs.declared.name.Ticket.{Ticket}
use Rattle.store.specs.declared.name.Txn.{Txn}
use Rattle.store.specs.declared.prepared.Prepared.{Prepared}
use Rattle.store.specs.declared.prepared.PreparedRow.{PreparedRow}

-- prepared rows
abbrev pub rows_of : List (Ticket × Prepared) → List PreparedRow
rows_of entries = map (λ entry. record { ticket = entry.0; prepared = entry.1 }) entries

-- commit rows
abbrev pub commits_of : List (Txn × List Voter) → List CommitRow
commits_of entries = map (λ entry. record { txn = entry.0; voters = entry.1 }) entries
