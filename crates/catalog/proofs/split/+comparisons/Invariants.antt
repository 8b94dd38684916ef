use Rattle.std.proofs.Common.{◌≡◌, map, take}
use Rattle.catalog.specs.Split.{tree_branch, tree_group}
use Rattle.catalog.proofs.split.+comparisons.Given as goal

-- so far they are the same
abbrev pub invariant-same_branches-loop-place : goal.invariant-same_branches-loop-place
invariant-same_branches-loop-place l = map tree_branch (take l.place l.branches) ≡ map tree_branch (take l.place l.others)

abbrev pub invariant-same_groups-loop-place : goal.invariant-same_groups-loop-place
invariant-same_groups-loop-place l = map tree_group (take l.place l.groups) ≡ map tree_group (take l.place l.others)
