-- The groups of a column split: which columns they name, twice or not at all.
use Rattle.std.specs.Prelude.{◌≡◌, ℕ, true, false, not, List, [], ◌∷◌, ◌++◌, flat_map, find, Option, Some, None}
use Rattle.catalog.specs.declared.parts.PartFault.{PartFault}
use Rattle.catalog.specs.declared.parts.PartFault.TheVariants.{Twice, Lost}
use Rattle.catalog.specs.Counts.{has}
use Rattle.catalog.specs.Valid.{AreParts}

-- the columns that groups name, in order
abbrev pub named : List (List ℕ) → List ℕ
named groups = flat_map (λ group. group) groups

-- no column stands twice
abbrev pub AreApart : List ℕ → Type 0
AreApart [] = Unit {0}
AreApart (col ∷ columns) = (has columns col ≡ false) × AreApart columns

-- a column is the first that stands among those before it
pub record IsFirstAgain (columns : List ℕ) (col : ℕ) : Type 0 where
  pub before : List ℕ
  pub after : List ℕ
  pub place : columns ≡ before ++ col ∷ after
  pub apart : AreApart before
  pub again : has before col ≡ true

-- the first of the columns that no group names, if there is one
abbrev pub first_lost : List ℕ → List (List ℕ) → Option ℕ
first_lost columns groups = find (λ col. not (has (named groups) col)) columns

-- what the check of a column split answers: the first column that is named again; else the first of the columns
-- that no group names; else the groups are parts, and no column is named twice, not in one group either
abbrev pub IsPartAnswer : List ℕ → List (List ℕ) → Option PartFault → Type 0
IsPartAnswer columns groups None = AreParts columns groups × AreApart (named groups)
IsPartAnswer columns groups (Some (Twice col)) = IsFirstAgain (named groups) col
IsPartAnswer columns groups (Some (Lost col)) = (first_lost columns groups ≡ Some col) × AreApart (named groups)
