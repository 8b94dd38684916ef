-- How the transactions of a schedule are named.
use Rattle.std.specs.Prelude.{ℕ, List, [], Option, unwrap_or}
use Rattle.std.specs.BTreeMap.{is_at}
use Rattle.std.specs.Cmp.Lexicographic.{slice_cmp}
use Rattle.std.specs.Map.{lookup}
use Rattle.std.specs.Ordering.{nat_cmp}
use Rattle.store.specs.declared.name.Txn.{Txn}
use Rattle.store.specs.Name.{txn_cmp}
use Rattle.lines.specs.declared.cast.Cast.{Cast}

-- the transaction that was begun under a name
abbrev pub txn_of : Cast → List ℕ → Option Txn
txn_of cast name = lookup (is_at (slice_cmp nat_cmp name)) cast.txns.entries

-- the name under which a transaction was begun, nothing where it was not
abbrev pub name_of : Cast → Txn → List ℕ
name_of cast txn = unwrap_or (lookup (is_at (txn_cmp txn)) cast.names.entries) []
