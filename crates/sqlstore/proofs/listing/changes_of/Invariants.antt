-- What each round of `listing::changes_of` keeps.
use Rattle.std.proofs.Common.{◌≡◌, drop, take}
use Rattle.std.specs.FinMap as map
use Rattle.std.specs.List.{AllByRecursion}
use Rattle.sqlstore.specs.Listed.{with_rows}
use Rattle.sqlstore.specs.Sound.{IsPart}
use Rattle.sqlstore.proofs.listing.changes_of.Given as goal

-- the parts of the rows that are left are to be put yet, and each row so far is a part
abbrev pub invariant-loop-row : goal.invariant-loop-row
invariant-loop-row l = (with_rows l.leaves (drop l.row-index l.rows) l.changes ≡ with_rows l.leaves l.rows map.empty) × AllByRecursion (IsPart l.leaves) (take l.row-index l.rows)
