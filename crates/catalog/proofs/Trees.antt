-- The trees of the code's variants.
use Rattle.std.proofs.Common.{◌≡◌, ℕ, List, [], ◌∷◌, map, Vec, Global, refl, ap, ap₂, sym, ◌∙◌}
use Rattle.catalog.specs.declared.split.Split.TheVariants as code
use Rattle.catalog.specs.declared.split.Split.TheOpen as one_level
use Rattle.catalog.specs.declared.split.Split.TheFolds.{fold-roll-Split}
use Rattle.catalog.specs.declared.split.Branch as branch
use Rattle.catalog.specs.declared.split.Group as group
use Rattle.catalog.specs.Split.{Tree, Site, ByRows, ByCols, TreeBranch, TreeGroup, branches_of, groups_of, tree_step, branch_step, group_step, tree_of, tree_branch, tree_group}

-- the trees of the code's variants

pub tree_of-Leaf : (site : ℕ) → tree_of (code.Leaf site) ≡ Site site
tree_of-Leaf site = ap tree_of (sym (code.rolls-Leaf site)) ∙ fold-roll-Split Tree TreeBranch TreeGroup tree_step branch_step group_step (one_level.Leaf site)

branches_same : (branches : List branch.Branch) → map (branch.fold-Branch Tree TreeBranch TreeGroup tree_step branch_step group_step) branches ≡ map tree_branch branches
branches_same [] = refl
branches_same (first ∷ rest) = ap₂ (λ (b : TreeBranch) (bs : List TreeBranch). b ∷ bs) (branch.fold_out-Branch Tree TreeBranch TreeGroup tree_step branch_step group_step first) (branches_same rest)

groups_same : (groups : List group.Group) → map (group.fold-Group Tree TreeBranch TreeGroup tree_step branch_step group_step) groups ≡ map tree_group groups
groups_same [] = refl
groups_same (first ∷ rest) = ap₂ (λ (g : TreeGroup) (gs : List TreeGroup). g ∷ gs) (group.fold_out-Group Tree TreeBranch TreeGroup tree_step branch_step group_step first) (groups_same rest)

pub tree_of-ByRows : (branches : Vec branch.Branch Global) → tree_of (code.ByRows branches) ≡ ByRows (branches_of (map tree_branch branches.items))
tree_of-ByRows branches = ap tree_of (sym (code.rolls-ByRows branches)) ∙ fold-roll-Split Tree TreeBranch TreeGroup tree_step branch_step group_step (one_level.ByRows branches) ∙ ap (λ bs. ByRows (branches_of bs)) (branches_same branches.items)

pub tree_of-ByCols : (groups : Vec group.Group Global) → tree_of (code.ByCols groups) ≡ ByCols (groups_of (map tree_group groups.items))
tree_of-ByCols groups = ap tree_of (sym (code.rolls-ByCols groups)) ∙ fold-roll-Split Tree TreeBranch TreeGroup tree_step branch_step group_step (one_level.ByCols groups) ∙ ap (λ gs. ByCols (groups_of gs)) (groups_same groups.items)
