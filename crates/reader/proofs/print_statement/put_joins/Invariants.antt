-- What each round of `print_statement::put_joins` keeps.
use Rattle.std.proofs.Common.{◌≡◌, ◌++◌, flat_map, map, take, string_bytes}
use Rattle.reader.specs.Columns.{column_at}
use Rattle.reader.specs.PrintStatement.{join_bytes}
use Rattle.reader.specs.Written.{join_as}
use Rattle.reader.proofs.print_statement.put_joins.Given as goal

-- the joins so far are put
abbrev pub invariant-loop-join : goal.invariant-loop-join
invariant-loop-join l = string_bytes l.out ≡ string_bytes l.fn.out ++ flat_map join_bytes (map (join_as (column_at l.columns)) (take l.join-index l.joins))
