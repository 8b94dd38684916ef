use Rattle.std.proofs.Common.{◌≡◌, [], ◌∷◌, ◌++◌, map, flat_map, take}
use Rattle.catalog.specs.declared.path.Step.TheVariants.{Row}
use Rattle.catalog.specs.Path.{behind, paths}
use Rattle.catalog.specs.Split.{tree_branch, tree_group}
use Rattle.catalog.proofs.TreePaths.{paths_from}
use Rattle.catalog.proofs.tree_paths.+listing.Given as goal

-- the paths of the branches so far stand behind the first ones
abbrev pub invariant-put_branches-loop-branch : goal.invariant-put_branches-loop-branch
invariant-put_branches-loop-branch l =
    l.paths.items ≡ l.initial.paths.items ++ flat_map (λ branch. map (behind (l.above ++ Row branch.conds ∷ [])) (paths branch.tree)) (map tree_branch (take l.branch-index l.branches))

-- with the paths of the groups that are left they are all
abbrev pub invariant-put_groups-loop-place : goal.invariant-put_groups-loop-place
invariant-put_groups-loop-place l =
    l.paths.items ++ paths_from l.above l.place (map tree_group l.groups) ≡ l.initial.paths.items ++ paths_from l.above 0 (map tree_group l.groups)
