-- The first row split of a catalogue that is not exact, and the cell that shows it. Splits are taken as they are checked: relations
-- by their names, and in a relation a split before those below it.
use Rattle.std.specs.Prelude.{◌≡◌, ◌≤◌, ◌⊎◌, ◌==◌, ℕ, suc, Bool, if◌then◌else◌, List, [], ◌∷◌, ◌++◌, Option, Some}
use Rattle.std.specs.List.{list_any}
use Rattle.terms.specs.declared.cond.Cond.{Cond}
use Rattle.terms.specs.declared.value.Kind.{Kind}
use Rattle.terms.specs.declared.value.Value.{Value}
use Rattle.meaning.specs.declared.schema.Column.{Column}
use Rattle.catalog.specs.declared.fault.Cell.{Cell}
use Rattle.catalog.specs.declared.fault.Rule.{Rule}
use Rattle.catalog.specs.declared.fault.Rule.TheVariants.{Gap, Overlap}
use Rattle.catalog.specs.declared.fault.Shown.{Shown}
use Rattle.catalog.specs.Catalogue.{SplitRelation, IsValidRelation}
use Rattle.catalog.specs.Cells.{IsFault, IsFirstFault, conds_of_split, met_by}
use Rattle.catalog.specs.Describes.{Frame, kinds_in}
use Rattle.catalog.specs.Path.{branch_conds}
use Rattle.catalog.specs.Split.{Tree, Site, ByRows, ByCols, Branches, NoBranch, Branch, Groups, NoGroup, Group}
use Rattle.catalog.specs.Valid.{AreExact}

-- a row split: the conditions on the way to it, and those of its branches
pub record RowSplit : Type 0 where
  pub way : List Cond
  pub branches : List (List Cond)

-- the row splits of a tree, to which these conditions lead, in order
abbrev mutual
  pub row_splits : List Cond → Tree → List RowSplit
  row_splits way (Site site) = []
  row_splits way (ByRows branches) = record { way = way; branches = branch_conds branches } ∷ splits_of_branches way branches
  row_splits way (ByCols groups) = splits_of_groups way groups

  pub splits_of_branches : List Cond → Branches → List RowSplit
  splits_of_branches way NoBranch = []
  splits_of_branches way (Branch conds tree rest) = row_splits (way ++ conds) tree ++ splits_of_branches way rest

  pub splits_of_groups : List Cond → Groups → List RowSplit
  splits_of_groups way NoGroup = []
  splits_of_groups way (Group columns tree rest) = row_splits way tree ++ splits_of_groups way rest

-- one of these is found, and each before it passes
abbrev pub IsFirst : {A : Type 0} → (A → Type 0) → (A → Type 0) → List A → Type 0
IsFirst found passes [] = ⊥
IsFirst found passes (item ∷ items) = found item ⊎ (passes item × IsFirst found passes items)

-- whether a condition names a column
abbrev pub is_named_by : List Cond → ℕ → Bool
is_named_by conds place = list_any (λ cond. cond.col == place) conds

-- the column at a place with its value, if a condition names it
abbrev pub shown_here : ℕ → List Cond → Column → Value → List Shown
shown_here place conds column value = if is_named_by conds place then record { column = column.name; value = value } ∷ [] else []

-- the columns that conditions name, each with its value in a row; the first has this place
abbrev pub shown_from : ℕ → List Cond → List Column → List Value → List Shown
shown_from place conds [] values = []
shown_from place conds (column ∷ columns) [] = []
shown_from place conds (column ∷ columns) (value ∷ values) = shown_here place conds column value ++ shown_from (suc place) conds columns values

-- A cell is the first faulty one of a row split over the columns of a relation, with what is shown of it. It is a row that
-- fits, meets the conditions on the way, and does not meet exactly one branch.
pub record IsFirstCell (frame : Frame) (way : List Cond) (branches : List (List Cond)) (cell : Cell) : Type 0 where
  pub first : IsFirstFault (kinds_in frame) way branches 4096 (Some cell.row)
  pub fault : IsFault (kinds_in frame) way branches cell.row
  pub shown : cell.shown ≡ shown_from 0 (conds_of_split way branches) frame.columns cell.row

-- it meets no branch of the row split of these branches
abbrev pub IsGapOf : Frame → List Cond → List (List Cond) → Cell → Type 0
IsGapOf frame way branches cell = IsFirstCell frame way branches cell × (met_by branches cell.row ≡ 0)

-- it meets two branches or more
abbrev pub IsOverlapOf : Frame → List Cond → List (List Cond) → Cell → Type 0
IsOverlapOf frame way branches cell = IsFirstCell frame way branches cell × (2 ≤ met_by branches cell.row)

-- a rule names the first faulty cell of a row split
abbrev pub ShowsCell : Frame → Rule → RowSplit → Type 0
ShowsCell frame (Gap cell) split = IsGapOf frame split.way split.branches cell
ShowsCell frame (Overlap cell) split = IsOverlapOf frame split.way split.branches cell
ShowsCell frame _ split = ⊥

abbrev pub IsExactSplit : List Kind → RowSplit → Type 0
IsExactSplit kinds split = AreExact kinds split.way split.branches

-- a rule names the first faulty cell of the first of these row splits that is not exact
abbrev pub IsFirstInexact : Frame → Rule → List RowSplit → Type 0
IsFirstInexact frame rule splits = IsFirst (ShowsCell frame rule) (IsExactSplit (kinds_in frame)) splits

-- the relation is told in which the first such split stands, and the rule names its cell; the relations before it are valid
abbrev pub IsFirstFaulty : List (List ℕ) → Option (List ℕ) → Rule → List SplitRelation → Type 0
IsFirstFaulty sites told rule relations =
    IsFirst (λ relation. (told ≡ Some relation.schema.name) × IsFirstInexact (record { sites = sites; columns = relation.schema.columns }) rule (row_splits [] relation.tree)) IsValidRelation relations
