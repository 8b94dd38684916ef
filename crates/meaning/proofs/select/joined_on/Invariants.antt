-- What each round of `select::joined_on` keeps.
use Rattle.std.proofs.Common.{◌≡◌, drop}
use Rattle.meaning.specs.Selected.{rows_joined}
use Rattle.meaning.proofs.select.joined_on.Given as goal

-- the rows so far, joined with the relations that are left, are those joined with all
abbrev pub invariant-loop-join : goal.invariant-loop-join
invariant-loop-join l = rows_joined l.whole (drop l.join-index l.joins) l.all.items ≡ rows_joined l.whole l.joins l.fn.rows.items
