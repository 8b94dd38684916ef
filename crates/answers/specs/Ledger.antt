-- Counting steps, and the map of a look-up.
use Rattle.std.specs.Prelude.{◌≡◌, ℕ, ◌+◌, ℤ, List, min, option_and_then}
use Rattle.std.specs.BTreeMap.{BTreeMap, get}
use Rattle.std.specs.List.{slice_get}
use Rattle.std.specs.Ordering.{int_cmp}
use Rattle.terms.specs.declared.value.Value.{Value}
use Rattle.catalog.specs.Keyed.{row_at}

-- one step more, as far as 64 bits tell
abbrev pub one_more : ℕ → ℕ
one_more steps = min (steps + 1) 18446744073709551615

-- a map has the places of rows by their keys
abbrev pub HasPlaces : BTreeMap ℤ ℕ → List (List Value) → Type 0
HasPlaces places rows = (key : ℤ) → option_and_then (slice_get rows) (get int_cmp places key) ≡ row_at key rows
