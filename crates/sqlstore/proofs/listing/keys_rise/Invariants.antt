-- What each round of `listing::keys_rise` keeps.
use Rattle.std.proofs.Common.{◌≤◌, T, drop, length}
use Rattle.std.specs.FinMap.Entries.{is_sorted}
use Rattle.std.specs.Ordering.{int_cmp}
use Rattle.sqlstore.specs.Listed.{with_keys}
use Rattle.sqlstore.proofs.Ascending.{IsLeast}
use Rattle.sqlstore.proofs.listing.keys_rise.Given as goal

-- the keys behind rise, from the least on
abbrev pub invariant-loop-at : goal.invariant-loop-at
invariant-loop-at l = (l.at ≤ length l.parts) × T (is_sorted int_cmp (with_keys (drop l.at l.parts))) × IsLeast l.least (drop l.at l.parts)

abbrev pub decreases-loop-at : goal.decreases-loop-at
decreases-loop-at l = l.at
