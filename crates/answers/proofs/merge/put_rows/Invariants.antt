-- What each round of `merge::put_rows` keeps.
use Rattle.std.proofs.Common.{◌≡◌, ◌++◌, drop}
use Rattle.answers.proofs.merge.put_rows.Given as goal

abbrev pub invariant-loop-row : goal.invariant-loop-row
invariant-loop-row l = l.out.items ++ drop l.row-index l.rows ≡ l.fn.out.items ++ l.rows
