use Rattle.std.proofs.Common.{◌≡◌, true, List, ◌++◌}
use Rattle.toml.specs.View.{members_view}
use Rattle.catalog.specs.Catalogue.{entries}
use Rattle.catalog.specs.Document.{are_tables}
use Rattle.catalog.proofs.Entries.{Entry}
use Rattle.catalog.proofs.catalogue.are_tables.Given as goal

-- the values so far are tables
abbrev pub invariant-loop-name : goal.invariant-loop-name
invariant-loop-name l = (done : List Entry) × (l.table.entries ≡ done ++ l._name-iterator) × (are_tables (entries (members_view done)) ≡ true)
