-- What each round of `listing::parts_among` keeps.
use Rattle.std.proofs.Common.{◌≡◌, ◌++◌, drop}
use Rattle.sqlstore.specs.Listed.{entries_in, with_keys}
use Rattle.sqlstore.proofs.listing.parts_among.Given as goal

-- the parts of the rows that are left are to be listed yet
abbrev pub invariant-loop-row : goal.invariant-loop-row
invariant-loop-row l = with_keys l.parts.items ++ entries_in l.leaves l.leaf (drop l.row-index l.rows) ≡ entries_in l.leaves l.leaf l.rows
