-- What each round of `partner::partner_pairs` keeps.
use Rattle.std.proofs.Common.{◌≡◌, ◌++◌, ◌+◌, ◌≤◌, ◌<◌, length, map}
use Rattle.std.specs.Vec.Iter.{into_iter_items}
use Rattle.answers.specs.Evaluated.{partner_pairs}
use Rattle.answers.specs.Laid.{laid_beside, numbers, row_of}
use Rattle.answers.specs.Ledger.{HasPlaces}
use Rattle.answers.proofs.partner.partner_pairs.Given as goal

-- the pairs of the rows gone through are found, each by one step at most, and by one where it is found
abbrev pub invariant-loop-row : goal.invariant-loop-row
invariant-loop-row l =
    (map (row_of (laid_beside l.count l.columns l.others_columns)) l.found.items ++ partner_pairs l.col (numbers l.columns) (numbers l.others_columns) (map (row_of l.columns) (into_iter_items l.row-iterator)) (map (row_of l.others_columns) l.others)
    ≡ partner_pairs l.col (numbers l.columns) (numbers l.others_columns) (map (row_of l.columns) l.fn.rows.items) (map (row_of l.others_columns) l.others)) × HasPlaces l.places (map (row_of l.others_columns) l.others)
    × (l.ledger.steps + length (into_iter_items l.row-iterator) ≤ l.fn.ledger.steps + (length l.fn.rows.items + length l.others)) × (l.ledger.steps < 18446744073709551615 → l.fn.ledger.steps + (length l.found.items + length l.others) ≤ l.ledger.steps)
