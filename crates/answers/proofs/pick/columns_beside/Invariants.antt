-- What each round of `pick::columns_beside` keeps.
use Rattle.std.proofs.Common.{◌≡◌, ◌++◌, drop}
use Rattle.answers.proofs.pick.columns_beside.Given as goal

abbrev pub invariant-loop-column : goal.invariant-loop-column
invariant-loop-column l = l.found.items ++ drop l.column-index l.columns ≡ l.columns
