-- The cells of a row split: the combinations of the columns' test values. They are whole rows; a column
-- that no condition names has one test value, so it adds none.
use Rattle.std.specs.Prelude.{◌≡◌, ◌≢◌, ◌<◌, ◌≤◌, ◌*◌, ◌↔◌, ℕ, suc, ◌==◌, Bool, true, false, not, ◌&&◌, List, [], ◌∷◌, ◌++◌, map, flat_map, filter, find, length, Option, Some, None, Contains}
use Rattle.std.specs.Borrow.{Bor}
use Rattle.std.specs.List.{AllByRecursion}
use Rattle.std.specs.List.Sorted.{IsStrictlySortedBy}
use Rattle.terms.specs.declared.cond.Cond.{Cond}
use Rattle.terms.specs.declared.value.Kind.{Kind}
use Rattle.terms.specs.declared.value.Value.{Value}
use Rattle.terms.specs.Value.{value_cmp}
use Rattle.terms.specs.Cond.{IsCondOf, conds_hold}
use Rattle.terms.specs.Row.{FitsKinds}
use Rattle.terms.specs.TestValues.{test_values, constants, column_holds}
use Rattle.catalog.specs.Counts.{how_many}
use Rattle.catalog.specs.Valid.{AreExact}

-- the combinations of an item of each list, the first list's items vary slowest
abbrev pub product : {A : Type 0} → List (List A) → List (List A)
product [] = [] ∷ []
product (items ∷ lists) = flat_map (λ item. map (λ rest. item ∷ rest) (product lists)) items

-- how many there are
abbrev pub cell_count : {A : Type 0} → List (List A) → ℕ
cell_count [] = 1
cell_count (items ∷ lists) = length items * cell_count lists

-- the conditions on the way to a row split and of its branches
abbrev pub conds_of_split : List Cond → List (List Cond) → List Cond
conds_of_split way branches = way ++ flat_map (λ conds. conds) branches

-- the test values of a column for these conditions, ascending, without repeats
pub record IsTestColumn (kind : Kind) (conds : List Cond) (col : ℕ) (values : List Value) : Type 0 where
  pub ascending : IsStrictlySortedBy value_cmp values
  pub members : (value : Value) → Contains values value ↔ Contains (test_values kind (constants conds col)) value

-- one such list for each column; the first column has this number
abbrev pub AreTestColumns : List Cond → ℕ → List Kind → List (List Value) → Type 0
AreTestColumns conds col [] [] = Unit {0}
AreTestColumns conds col [] (values ∷ lists) = ⊥
AreTestColumns conds col (kind ∷ kinds) [] = ⊥
AreTestColumns conds col (kind ∷ kinds) (values ∷ lists) = IsTestColumn kind conds col values × AreTestColumns conds (suc col) kinds lists

-- the lists of test values of the columns of a row split
abbrev pub AreSplitColumns : List Kind → List Cond → List (List Cond) → List (List Value) → Type 0
AreSplitColumns kinds way branches lists = AreTestColumns (conds_of_split way branches) 0 kinds lists

-- how many branches a row meets
abbrev pub met_by : List (List Cond) → List Value → ℕ
met_by branches row = how_many (λ conds. conds_hold conds row) branches

-- a row that meets the conditions on the way, but not exactly one branch
abbrev pub is_fault : List Cond → List (List Cond) → List Value → Bool
is_fault way branches row = conds_hold way row && not (met_by branches row == 1)

-- the first cell that is a fault, if there is one
abbrev pub first_fault : List Cond → List (List Cond) → List (List Value) → Option (List Value)
first_fault way branches lists = find (is_fault way branches) (product lists)

-- the same among the cells that begin with these values, and have an item of each list behind them
abbrev pub first_fault_behind : List Cond → List (List Cond) → List Value → List (List Value) → Option (List Value)
first_fault_behind way branches before lists = find (is_fault way branches) (map (λ rest. before ++ rest) (product lists))

-- the values of each column that meet the conditions on the way to a row split; the first column has this number
abbrev pub on_way : List Cond → ℕ → List (List Value) → List (List Value)
on_way way col [] = []
on_way way col (values ∷ lists) = filter (column_holds way col) values ∷ on_way way (suc col) lists

-- the values that are borrowed
abbrev pub values_of : List (Bor Value) → List Value
values_of row = map (λ value. value.now) row

-- what a search answers that is to find this cell, if there is one: whether there is one, and its values in the place of those that it began with
abbrev pub IsSought : Option (List Value) → Bool → List (Bor Value) → List (Bor Value) → Type 0
IsSought first true old new = first ≡ Some (values_of new)
IsSought first false old new = (first ≡ None) × (new ≡ old)

-- the first fault of a row split over columns of these types, which has at most so many cells
pub record IsFirstFault (kinds : List Kind) (way : List Cond) (branches : List (List Cond)) (limit : ℕ) (found : Option (List Value)) : Type 0 where
  pub lists : List (List Value)
  pub columns : AreSplitColumns kinds way branches lists
  pub few : cell_count lists ≤ limit
  pub first : first_fault way branches lists ≡ found

-- a row split has more cells than this
abbrev pub HasMoreCells : List Kind → List Cond → List (List Cond) → ℕ → Type 0
HasMoreCells kinds way branches limit = (lists : List (List Value)) × AreSplitColumns kinds way branches lists × (limit < cell_count lists)

-- a row that fits, meets the conditions on the way, and meets no branch or two or more
pub record IsFault (kinds : List Kind) (way : List Cond) (branches : List (List Cond)) (row : List Value) : Type 0 where
  pub fits : FitsKinds kinds row
  pub holds : conds_hold way row ≡ true
  pub not_one : met_by branches row ≢ 1

-- the lists of test values are fixed by the row split, and so are its cells, their number and their order
abbrev pub CellsAreFixed : Type 0
CellsAreFixed = (kinds : List Kind) (way : List Cond) (branches : List (List Cond)) (one other : List (List Value)) → AreSplitColumns kinds way branches one → AreSplitColumns kinds way branches other → one ≡ other

-- all conditions of a row split fit columns of these types
pub record AllFit (kinds : List Kind) (way : List Cond) (branches : List (List Cond)) : Type 0 where
  pub on_way : AllByRecursion (IsCondOf kinds) way
  pub of_branches : AllByRecursion (λ conds. AllByRecursion (IsCondOf kinds) conds) branches

-- a row split is exact where no cell is a fault, and the first cell that is one shows that it isn't exact
abbrev pub CellsDecide : Type 0
CellsDecide = (kinds : List Kind) (way : List Cond) (branches : List (List Cond)) (lists : List (List Value)) → AllFit kinds way branches → AreSplitColumns kinds way branches lists →
    (first_fault way branches lists ≡ None → AreExact kinds way branches) × ((cell : List Value) → first_fault way branches lists ≡ Some cell → IsFault kinds way branches cell)
