-- What each round of `dump::put_rows` keeps.
use Rattle.std.proofs.Common.{◌≡◌, ◌++◌, take, string_bytes}
use Rattle.exchange.specs.Dump.{rows_from}
use Rattle.exchange.proofs.dump.put_rows.Given as goal

abbrev pub invariant-loop-number : goal.invariant-loop-number
invariant-loop-number l = string_bytes l.out ≡ string_bytes l.initial.out ++ rows_from l.relation.name 0 (take l.number l.rows)
