-- The law of cover: which leaves are wanted for needed columns is no loss. It is stated over a whole tree, and over a subtree
-- below these conditions and within these columns.
use Rattle.std.specs.Prelude.{◌≡◌, ◌≢◌, ◌<◌, ℕ, Bool, true, ◌&&◌, if◌then◌else◌, List, length}
use Rattle.std.specs.List.{AllByRecursion, list_any}
use Rattle.terms.specs.declared.cond.Cond.{Cond}
use Rattle.terms.specs.declared.value.Kind.{Kind}
use Rattle.terms.specs.declared.value.Value.{Value}
use Rattle.terms.specs.Cond.{conds_hold}
use Rattle.terms.specs.Row.{FitsKinds}
use Rattle.catalog.specs.declared.path.Path.{Path}
use Rattle.catalog.specs.Counts.{how_many, has}
use Rattle.catalog.specs.Path.{path_conds, path_columns, columns_beside_key, paths, wanted}
use Rattle.catalog.specs.Split.{Tree}
use Rattle.catalog.specs.Valid.{IsValid, IsValidWithin}

-- whether the conditions on a path hold of a row
abbrev pub leads : List Value → Path → Bool
leads row path = conds_hold (path_conds path.steps) row

-- whether a path's leaf has the row in the column, of these around
abbrev pub covers : List Value → ℕ → List ℕ → Path → Bool
covers row col columns path = leads row path && has (path_columns columns path.steps) col

-- whether the conditions on a path hold of a row, and the path is wanted for the needed columns
abbrev pub serves : List ℕ → List Value → Path → Bool
serves needed row path = leads row path && wanted needed path.steps

-- of every row that fits the conditions of some wanted leaf hold
abbrev pub SomeServes : Type 0
SomeServes = (kinds : List Kind) (tree : Tree) (needed : List ℕ) (row : List Value) → IsValid kinds tree → FitsKinds kinds row → list_any (serves needed row) (paths tree) ≡ true

-- and exactly one wanted leaf whose conditions hold has a needed column outside the key
abbrev pub OneServes : Type 0
OneServes = (kinds : List Kind) (tree : Tree) (needed : List ℕ) (row : List Value) (col : ℕ) → IsValid kinds tree → FitsKinds kinds row → has needed col ≡ true → col ≢ 0 → col < length kinds →
    how_many (λ path. serves needed row path && has (path_columns (columns_beside_key kinds) path.steps) col) (paths tree) ≡ 1

-- below these conditions, where they hold of the row, and within these columns
abbrev pub SomeServesBelow : Type 0
SomeServesBelow = (kinds : List Kind) (way : List Cond) (columns : List ℕ) (tree : Tree) (needed : List ℕ) (row : List Value) →
    IsValidWithin kinds way columns tree → FitsKinds kinds row → conds_hold way row ≡ true → list_any (serves needed row) (paths tree) ≡ true

abbrev pub OneServesBelow : Type 0
OneServesBelow = (kinds : List Kind) (way : List Cond) (columns : List ℕ) (tree : Tree) (needed : List ℕ) (row : List Value) (col : ℕ) →
    IsValidWithin kinds way columns tree → FitsKinds kinds row → conds_hold way row ≡ true → has needed col ≡ true →
    how_many (λ path. serves needed row path && has (path_columns columns path.steps) col) (paths tree) ≡ (if has columns col then 1 else 0)

-- of any column, needed or not: exactly one leaf whose conditions hold has it
abbrev pub OneLeafBelow : Type 0
OneLeafBelow = (kinds : List Kind) (way : List Cond) (columns : List ℕ) (tree : Tree) (row : List Value) (col : ℕ) →
    IsValidWithin kinds way columns tree → FitsKinds kinds row → conds_hold way row ≡ true → how_many (covers row col columns) (paths tree) ≡ (if has columns col then 1 else 0)

-- each leaf that has a needed column is wanted
abbrev pub NeededIsWanted : Type 0
NeededIsWanted = (kinds : List Kind) (way : List Cond) (columns : List ℕ) (tree : Tree) (needed : List ℕ) (col : ℕ) → IsValidWithin kinds way columns tree → has needed col ≡ true →
    AllByRecursion (λ path. has (path_columns columns path.steps) col ≡ true → wanted needed path.steps ≡ true) (paths tree)
