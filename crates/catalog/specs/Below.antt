-- What is below a split: the branches or the groups of the nodes under it.
use Rattle.std.specs.Prelude.{◌≡◌, ◌≤◌, ◌+◌, ℕ, zero, suc, List, [], Some, None, length, map}
use Rattle.toml.specs.Data.{Data}
use Rattle.terms.specs.declared.cond.Cond.{Cond}
use Rattle.catalog.specs.declared.fault.Rule.{Rule}
use Rattle.catalog.specs.declared.fault.Rule.TheVariants.{NoSite, Limit}
use Rattle.catalog.specs.declared.split.Branch as branch
use Rattle.catalog.specs.declared.split.Group as group
use Rattle.catalog.specs.Describes.{Frame, kinds_in, Each, IsWhere, AreNamedIn, HasFewCells, in_order, site_numbered, AreBranches, AreGroups}
use Rattle.catalog.specs.Path.{branch_conds, group_columns, paths_by_rows, paths_by_cols}
use Rattle.catalog.specs.Inexact.{IsFirstInexact, row_splits, splits_of_branches, splits_of_groups}
use Rattle.catalog.specs.Refusal.{RefusesBy}
use Rattle.catalog.specs.Split.{ByRows, Branches, Groups, branches_of, groups_of, tree_branch, tree_group}

-- the branches of the code, and the groups, as the definitions say it
abbrev pub branches_seen : List branch.Branch → Branches
branches_seen branches = branches_of (map tree_branch branches)

abbrev pub groups_seen : List group.Group → Groups
groups_seen groups = groups_of (map tree_group groups)

-- nodes describe the branches of a row split, which is one of so many splits
abbrev pub AreRows : Frame → ℕ → List Cond → List ℕ → List Data → Branches → Type 0
AreRows frame zero way within nodes branches = ⊥
AreRows frame (suc splits) way within nodes branches =
    Each (IsWhere frame within) nodes (branch_conds branches) × HasFewCells (kinds_in frame) way (branch_conds branches) × AreBranches frame splits way within nodes branches

-- nodes describe the groups of a column split, which is one of so many splits
abbrev pub AreCols : Frame → ℕ → List Cond → List ℕ → List Data → Groups → Type 0
AreCols frame zero way within nodes groups = ⊥
AreCols frame (suc splits) way within nodes groups =
    (columns : List (List ℕ)) × AreNamedIn frame within nodes columns × (group_columns groups ≡ map (in_order within) columns) × AreGroups frame splits way nodes groups

-- a refusal of a leaf: there is no such site, or no room for one leaf more
abbrev pub RefusesSite : Frame → List ℕ → ℕ → Rule → Type 0
RefusesSite frame name leaves rule = RefusesBy ⊥ ((site : ℕ) → site_numbered frame.sites name ≡ Some site → leaves + 1 ≤ 32 → ⊥) rule

-- what is wrong with a leaf, by the rule
abbrev pub IsLeafFault : Frame → List ℕ → ℕ → Rule → Type 0
IsLeafFault frame name leaves NoSite = site_numbered frame.sites name ≡ None
IsLeafFault frame name leaves Limit = 32 ≤ leaves
IsLeafFault frame name leaves _ = ⊥

-- a refusal of a row split
abbrev pub RefusesRows : Frame → ℕ → List Cond → List ℕ → List Data → ℕ → Rule → Type 0
RefusesRows frame splits way within nodes leaves rule =
    RefusesBy ((branches : Branches) → AreRows frame splits way within nodes branches → IsFirstInexact frame rule (row_splits way (ByRows branches)))
    ((branches : Branches) → AreRows frame splits way within nodes branches → leaves + length (paths_by_rows branches) ≤ 32 → ⊥) rule

-- a refusal of what is below a row split whose branches have these conditions
abbrev pub RefusesBranches : Frame → ℕ → List Cond → List ℕ → List Data → List (List Cond) → ℕ → Rule → Type 0
RefusesBranches frame splits way within nodes conds leaves rule =
    RefusesBy ((branches : Branches) → branch_conds branches ≡ conds → AreBranches frame splits way within nodes branches → IsFirstInexact frame rule (splits_of_branches way branches))
    ((branches : Branches) → branch_conds branches ≡ conds → AreBranches frame splits way within nodes branches → leaves + length (paths_by_rows branches) ≤ 32 → ⊥) rule

-- a refusal of a column split
abbrev pub RefusesCols : Frame → ℕ → List Cond → List ℕ → List Data → ℕ → Rule → Type 0
RefusesCols frame splits way within nodes leaves rule =
    RefusesBy ((groups : Groups) → AreCols frame splits way within nodes groups → IsFirstInexact frame rule (splits_of_groups way groups))
    ((groups : Groups) → AreCols frame splits way within nodes groups → leaves + length (paths_by_cols [] groups) ≤ 32 → ⊥) rule

-- a refusal of what is below a column split into groups of these columns
abbrev pub RefusesGroups : Frame → ℕ → List Cond → List Data → List (List ℕ) → ℕ → Rule → Type 0
RefusesGroups frame splits way nodes columns leaves rule =
    RefusesBy ((groups : Groups) → group_columns groups ≡ columns → AreGroups frame splits way nodes groups → IsFirstInexact frame rule (splits_of_groups way groups))
    ((groups : Groups) → group_columns groups ≡ columns → AreGroups frame splits way nodes groups → leaves + length (paths_by_cols [] groups) ≤ 32 → ⊥) rule
