-- What each round of `numbered::are_numbered` keeps.
use Rattle.std.proofs.Common.{◌<◌, ℕ}
use Rattle.sqlstore.specs.Numbered.{IsNumberedAt}
use Rattle.sqlstore.proofs.numbered.are_numbered.Given as goal

-- each row so far has a number, and follows the row before it
abbrev pub invariant-loop-at : goal.invariant-loop-at
invariant-loop-at l = (k : ℕ) → k < l.at → IsNumberedAt l.rows k
