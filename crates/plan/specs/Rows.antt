-- What plans mean: rows over named columns, by their keys.
use Rattle.std.specs.Prelude.{ℕ, ℤ, ◌-◌, ◌==◌, ◌||◌, nat_lt, Bool, if◌then◌else◌, List, Option, Some, None, filter, option_map, option_and_then}
use Rattle.std.specs.List.{list_all, slice_get}
use Rattle.std.specs.Option.{option_or}
use Rattle.terms.specs.declared.cond.Cond.{Cond}
use Rattle.terms.specs.declared.leaf.Leaf.{Leaf}
use Rattle.terms.specs.declared.value.Value.{Value}
use Rattle.terms.specs.declared.value.Value.TheVariants.{Int, Text}
use Rattle.terms.specs.Cond.{conds_hold, holds_of}
use Rattle.catalog.specs.Counts.{has}
use Rattle.catalog.specs.Keyed.{row_at}
use Rattle.plan.specs.Fetch.{place_in}
use Rattle.plan.specs.Shape.{Shape, Empty, Fetch, Filter, Project, Union, KeyJoin, Lookup}

-- a row as it is seen: a value for each column that is known of it
abbrev pub Seen : Type 0
Seen = ℕ → Option Value

-- columns besides which the key is seen
abbrev pub is_seen : List ℕ → ℕ → Bool
is_seen columns col = (col == 0) || has columns col

-- a row, seen in the key and in these columns
abbrev pub seen_of : List ℕ → List Value → Seen
seen_of columns row col = if is_seen columns col then slice_get row col else None

-- a leaf's part, seen in the leaf's columns
abbrev pub seen_part : List ℕ → List Value → Seen
seen_part columns part col = option_and_then (slice_get part) (place_in col columns)

-- the key and these columns alone
abbrev pub restricted : List ℕ → Seen → Seen
restricted columns seen col = if is_seen columns col then seen col else None

-- what one of two is known by
abbrev pub merged : Seen → Seen → Seen
merged one other col = option_or (one col) (other col)

-- the columns counted on from a width
abbrev pub shifted : ℕ → Seen → Seen
shifted width seen col = if nat_lt col width then None else seen (col - width)

-- whether all conditions hold of what is seen
abbrev pub seen_meets : List Cond → Seen → Bool
seen_meets conds seen = list_all (λ cond. holds_of cond (seen cond.col)) conds

abbrev pub kept : List Cond → Option Seen → Option Seen
kept conds None = None
kept conds (Some seen) = if seen_meets conds seen then Some seen else None

-- what there is at the key that a value is; a text is none
abbrev pub at_value : (ℤ → Option Seen) → Option Value → Option Seen
at_value at None = None
at_value at (Some (Text bytes)) = None
at_value at (Some (Int key)) = at key

-- the parts that meet conditions on their places, in ascending order of their keys
abbrev pub met : List Cond → List (List Value) → List (List Value)
met conds parts = filter (conds_hold conds) parts

-- the row of a plan at a key, where the leaves have these parts
abbrev pub rows : Shape → (Leaf → List (List Value)) → ℤ → Option Seen
rows Empty contents key = None
rows (Fetch read) contents key = option_map (seen_part read.columns) (row_at key (met read.conds (contents read.leaf)))
rows (Filter conds below) contents key = kept conds (rows below contents key)
rows (Project columns below) contents key = option_map (restricted columns) (rows below contents key)
rows (Union one other) contents key = option_or (rows one contents key) (rows other contents key)
rows (KeyJoin one other) contents key = option_and_then (λ seen. option_map (merged seen) (rows other contents key)) (rows one contents key)
rows (Lookup col width left right) contents key =
    option_and_then (λ seen. option_map (λ partner. merged seen (shifted width partner)) (at_value (λ other. rows right contents other) (seen col))) (rows left contents key)
