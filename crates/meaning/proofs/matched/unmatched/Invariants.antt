-- What each round of `matched::unmatched` keeps.
use Rattle.std.proofs.Common.{◌≡◌, ◌++◌, drop}
use Rattle.meaning.specs.Matched.{unmatched}
use Rattle.meaning.proofs.matched.unmatched.Given as goal

-- the rows kept so far and those of the rows that are left are those of all
abbrev pub invariant-loop-row : goal.invariant-loop-row
invariant-loop-row l = l.left.items ++ unmatched l.conds (drop l.row-index l.rows) ≡ unmatched l.conds l.rows
