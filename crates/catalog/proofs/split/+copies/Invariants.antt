use Rattle.std.proofs.Common.{◌≡◌, map, take}
use Rattle.catalog.specs.Split.{tree_branch, tree_group}
use Rattle.catalog.proofs.split.+copies.Given as goal

abbrev pub invariant-copy_branches-loop-branch : goal.invariant-copy_branches-loop-branch
invariant-copy_branches-loop-branch l = map tree_branch l.copies.items ≡ map tree_branch (take l.branch-index l.branches)

abbrev pub invariant-copy_groups-loop-group : goal.invariant-copy_groups-loop-group
invariant-copy_groups-loop-group l = map tree_group l.copies.items ≡ map tree_group (take l.group-index l.groups)
