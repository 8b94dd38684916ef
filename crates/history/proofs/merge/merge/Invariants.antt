-- What was picked so far, and what is left.
use Rattle.std.proofs.Common.{length}
use Rattle.std.specs.List.{sum_by}
use Rattle.history.specs.Picks.{acts_of, rows_of}
use Rattle.history.proofs.Merging.{IsUpTo}
use Rattle.history.proofs.merge.merge.Given as goal

abbrev pub invariant-loop-pick : goal.invariant-loop-pick
invariant-loop-pick g l = IsUpTo g.T.Numbered.number (rows_of l.rows) (rows_of l.rest.items) (acts_of l.picks.items) l.low

-- the items that are left grow fewer
abbrev pub decreases-loop-pick : goal.decreases-loop-pick
decreases-loop-pick g l = sum_by (λ items. length items.now) l.rest.items
