-- What each round of `table::lent` keeps.
use Rattle.std.proofs.Common.{◌≡◌, ◌++◌, drop}
use Rattle.answers.proofs.table.lent.Given as goal

-- what is lent so far, and the rest, are all
abbrev pub invariant-loop-one : goal.invariant-loop-one
invariant-loop-one l = l.rows.items ++ drop l.one-index l.brought ≡ l.brought
