-- What each round of `merge::merged` keeps, and why it ends.
use Rattle.std.proofs.Common.{◌+◌, length, map}
use Rattle.answers.specs.Laid.{row_of}
use Rattle.answers.proofs.Merging.{IsMerging}
use Rattle.answers.proofs.merge.merged.Given as goal

abbrev pub invariant-loop-row : goal.invariant-loop-row
invariant-loop-row l = IsMerging (map (row_of l.columns) l.rows) (map (row_of l.columns) l.others) l.fn.ledger.steps (map (row_of l.columns) l.found.items) (map (row_of l.columns) l.rest) (map (row_of l.columns) l.rest_others) l.ledger.steps

abbrev pub decreases-loop-row : goal.decreases-loop-row
decreases-loop-row l = length l.rest + length l.rest_others
