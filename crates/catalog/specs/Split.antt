-- Fragment trees, and the tree of a split of the code.
use Rattle.std.specs.Prelude.{ℕ, List, [], ◌∷◌}
use Rattle.terms.specs.declared.cond.Cond.{Cond}
use Rattle.catalog.specs.declared.split.Branch as branch
use Rattle.catalog.specs.declared.split.Group as group
use Rattle.catalog.specs.declared.split.Split.{Split}
use Rattle.catalog.specs.declared.split.Split.TheOpen as one_level
use Rattle.catalog.specs.declared.split.Split.TheOpen.{Split-F, Branch-F, Group-F}
use Rattle.catalog.specs.declared.split.Split.TheFolds.{fold-Split}

-- A fragment tree: a leaf at a site, a split of the rows by conditions, or a split of the columns into groups.
mutual
  pub data Tree : Type 0 where
    Site : (site : ℕ) → Tree
    ByRows : (branches : Branches) → Tree
    ByCols : (groups : Groups) → Tree

  pub data Branches : Type 0 where
    NoBranch : Branches
    Branch : (conds : List Cond) (tree : Tree) (rest : Branches) → Branches

  pub data Groups : Type 0 where
    NoGroup : Groups
    Group : (columns : List ℕ) (tree : Tree) (rest : Groups) → Groups

-- a branch's conditions and tree
pub record TreeBranch : Type 0 where
  pub conds : List Cond
  pub tree : Tree

-- a group's columns and tree
pub record TreeGroup : Type 0 where
  pub columns : List ℕ
  pub tree : Tree

abbrev pub branches_of : List TreeBranch → Branches
branches_of [] = NoBranch
branches_of (branch ∷ rest) = Branch branch.conds branch.tree (branches_of rest)

abbrev pub groups_of : List TreeGroup → Groups
groups_of [] = NoGroup
groups_of (group ∷ rest) = Group group.columns group.tree (groups_of rest)

abbrev pub tree_step : Split-F Tree TreeBranch TreeGroup → Tree
tree_step (one_level.Leaf site) = Site site
tree_step (one_level.ByRows branches) = ByRows (branches_of branches.items)
tree_step (one_level.ByCols groups) = ByCols (groups_of groups.items)

abbrev pub branch_step : Branch-F Tree TreeBranch TreeGroup → TreeBranch
branch_step branch = record { conds = branch.conds; tree = branch.split }

abbrev pub group_step : Group-F Tree TreeBranch TreeGroup → TreeGroup
group_step group = record { columns = group.columns; tree = group.split }

-- the tree of a split of the code
abbrev pub tree_of : Split → Tree
tree_of = fold-Split Tree TreeBranch TreeGroup tree_step branch_step group_step

-- a branch of the code, and a group
abbrev pub tree_branch : branch.Branch → TreeBranch
tree_branch one = record { conds = (branch.out-Branch one).conds; tree = tree_of (branch.out-Branch one).split }

abbrev pub tree_group : group.Group → TreeGroup
tree_group one = record { columns = (group.out-Group one).columns; tree = tree_of (group.out-Group one).split }
