-- The columns of a plan's rows; plans whose unions have one list of columns on both sides.
use Rattle.std.specs.Prelude.{◌≡◌, ℕ, ◌+◌, ◌<◌, false, not, List, [], ◌∷◌, ◌++◌, Option, Some, None, filter, map, option_map}
use Rattle.std.specs.List.{AllByRecursion, slice_get}
use Rattle.std.specs.Option.{option_or}
use Rattle.catalog.specs.Counts.{has}
use Rattle.plan.specs.declared.fetch.Fetch as fetch
use Rattle.plan.specs.Rows.{is_seen}
use Rattle.plan.specs.Shape.{Shape, Empty, Fetch, Filter, Project, Union, KeyJoin, Lookup}

-- columns, and behind them those others that are not among them
abbrev pub beside : List ℕ → List ℕ → List ℕ
beside columns others = columns ++ filter (λ col. not (has columns col)) others

-- columns counted on from a width
abbrev pub past : ℕ → List ℕ → List ℕ
past width columns = map (λ col. width + col) columns

abbrev pub both_columns : Option (List ℕ) → Option (List ℕ) → Option (List ℕ)
both_columns None others = None
both_columns (Some columns) others = option_map (beside columns) others

-- the columns of a plan's rows, in order; none of a plan that can have no row
abbrev pub columns_had : Shape → Option (List ℕ)
columns_had Empty = None
columns_had (Fetch read) = Some read.columns
columns_had (Filter conds below) = columns_had below
columns_had (Project columns below) = option_map (filter (is_seen columns)) (columns_had below)
columns_had (Union one other) = option_or (columns_had one) (columns_had other)
columns_had (KeyJoin one other) = both_columns (columns_had one) (columns_had other)
columns_had (Lookup col width left right) = both_columns (columns_had left) (option_map (past width) (columns_had right))

-- two plans have the same columns, unless one of them can have no row
abbrev pub Agree : Option (List ℕ) → Option (List ℕ) → Type 0
Agree None others = Unit {0}
Agree (Some columns) None = Unit {0}
Agree (Some columns) (Some others) = columns ≡ others

-- columns that are counted on from a width are numbers of 64 bits
abbrev pub StayWithin : ℕ → Option (List ℕ) → Type 0
StayWithin width None = Unit {0}
StayWithin width (Some columns) = AllByRecursion (λ col. width + col < 18446744073709551616) columns

-- no column twice
abbrev pub AreOnce : List ℕ → Type 0
AreOnce [] = Unit {0}
AreOnce (col ∷ columns) = (has columns col ≡ false) × AreOnce columns

-- both sides of each union have the same columns, and each read has the key first and no column twice
abbrev pub IsUniform : Shape → Type 0
IsUniform Empty = Unit {0}
IsUniform (Fetch read) = (slice_get read.columns 0 ≡ Some 0) × AreOnce read.columns
IsUniform (Filter conds below) = IsUniform below
IsUniform (Project columns below) = IsUniform below
IsUniform (Union one other) = IsUniform one × IsUniform other × Agree (columns_had one) (columns_had other)
IsUniform (KeyJoin one other) = IsUniform one × IsUniform other
IsUniform (Lookup col width left right) = IsUniform left × IsUniform right × StayWithin width (columns_had right)

-- what holds of each read of a plan
abbrev pub EachRead : (fetch.Fetch → Type 0) → Shape → Type 0
EachRead P Empty = Unit {0}
EachRead P (Fetch read) = P read
EachRead P (Filter conds below) = EachRead P below
EachRead P (Project columns below) = EachRead P below
EachRead P (Union one other) = EachRead P one × EachRead P other
EachRead P (KeyJoin one other) = EachRead P one × EachRead P other
EachRead P (Lookup col width left right) = EachRead P left × EachRead P right
