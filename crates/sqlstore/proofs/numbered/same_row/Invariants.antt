-- What each round of `numbered::same_row` keeps.
use Rattle.std.proofs.Common.{◌≡◌, ◌<◌, ℕ, false, length}
use Rattle.sqlite.specs.Order.{column}
use Rattle.sqlstore.specs.Numbered.{is_real}
use Rattle.sqlstore.proofs.numbered.same_row.Given as goal

-- the cells so far are the same, and no real numbers
abbrev pub invariant-loop-at : goal.invariant-loop-at
invariant-loop-at l = (length l.one ≡ length l.other) × (l.count ≡ length l.one) × ((k : ℕ) → k < l.at → (column l.one k ≡ column l.other k) × (is_real (column l.one k) ≡ false))
