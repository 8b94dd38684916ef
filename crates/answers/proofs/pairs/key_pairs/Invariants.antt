-- What each round of `pairs::key_pairs` keeps, and why it ends.
use Rattle.std.proofs.Common.{◌≡◌, ◌+◌, length, map}
use Rattle.std.specs.Vec.Iter.{into_iter_items, into_iter_len}
use Rattle.answers.specs.Laid.{laid_beside, numbers, row_of}
use Rattle.answers.proofs.Pairing.{IsPairing, left}
use Rattle.answers.proofs.pairs.key_pairs.Given as goal

abbrev pub invariant-loop-first : goal.invariant-loop-first
invariant-loop-first l =
    IsPairing (numbers l.columns) (numbers l.others_columns) (map (row_of l.columns) l.fn.rows.items) (map (row_of l.others_columns) l.fn.others.items) l.fn.ledger.steps (map (row_of (laid_beside l.count l.columns l.others_columns)) l.found.items)
    (map (row_of l.columns) (left l.first (into_iter_items l.rest))) (map (row_of l.others_columns) (left l.first_other (into_iter_items l.rest_others))) l.ledger.steps
    × (into_iter_len l.rest ≡ length (into_iter_items l.rest)) × (into_iter_len l.rest_others ≡ length (into_iter_items l.rest_others))

abbrev pub decreases-loop-first : goal.decreases-loop-first
decreases-loop-first l = length (left l.first (into_iter_items l.rest)) + length (left l.first_other (into_iter_items l.rest_others))
