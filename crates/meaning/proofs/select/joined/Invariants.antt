-- What each round of `select::joined` keeps.
use Rattle.std.proofs.Common.{◌≡◌, ◌++◌, drop}
use Rattle.meaning.specs.Selected.{joined}
use Rattle.meaning.proofs.select.joined.Given as goal

-- the pairs so far and those of the rows that are left are those of all
abbrev pub invariant-loop-row : goal.invariant-loop-row
invariant-loop-row l = l.pairs.items ++ joined l.col l.others (drop l.row-index l.rows) ≡ joined l.col l.others l.rows
