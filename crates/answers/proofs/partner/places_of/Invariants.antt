-- What each round of `partner::places_of` keeps.
use Rattle.std.proofs.Common.{◌≡◌, ◌+◌, ◌≤◌, ◌<◌, ℤ, map, take, option_and_then}
use Rattle.std.specs.BTreeMap.{get}
use Rattle.std.specs.List.{slice_get}
use Rattle.std.specs.Ordering.{int_cmp}
use Rattle.catalog.specs.Keyed.{row_at}
use Rattle.answers.specs.Laid.{row_of}
use Rattle.answers.proofs.partner.places_of.Given as goal

-- the map has the places of the rows gone through, each by one step
abbrev pub invariant-loop-place : goal.invariant-loop-place
invariant-loop-place l =
    ((key : ℤ) → option_and_then (slice_get (map (row_of l.columns) l.rows)) (get int_cmp l.places key) ≡ row_at key (take l.place (map (row_of l.columns) l.rows))) × (l.ledger.steps ≤ l.fn.ledger.steps + l.place)
    × (l.ledger.steps < 18446744073709551615 → l.fn.ledger.steps + l.place ≤ l.ledger.steps)
