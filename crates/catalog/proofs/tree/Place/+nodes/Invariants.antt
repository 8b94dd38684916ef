use Rattle.std.proofs.Common.{◌≡◌, ◌≤◌, ◌+◌, ◌*◌, [], map, take, length}
use Rattle.toml.specs.View.{view}
use Rattle.catalog.specs.Below.{branches_seen, groups_seen}
use Rattle.catalog.specs.Describes.{in_order, Each}
use Rattle.catalog.specs.Frame.{frame_of}
use Rattle.catalog.specs.Path.{branch_conds, group_columns, paths_by_rows, paths_by_cols}
use Rattle.catalog.specs.Split.{tree_branch, tree_group}
use Rattle.catalog.proofs.Below.{IsBranch, IsGroup}
use Rattle.catalog.proofs.tree.Place.+nodes.Given as goal

-- from a tree of so many splits into its branches, to each of them, and to a tree of fewer splits

abbrev pub decreases-tree : goal.decreases-tree
decreases-tree l = 4 * l.self.now.splits + 2

abbrev pub decreases-by_rows : goal.decreases-by_rows
decreases-by_rows l = 4 * l.self.now.splits + 1

abbrev pub decreases-branches : goal.decreases-branches
decreases-branches l = 4 * l.self.now.splits + 4

abbrev pub decreases-branch : goal.decreases-branch
decreases-branch l = 4 * l.self.now.splits + 3

abbrev pub decreases-by_cols : goal.decreases-by_cols
decreases-by_cols l = 4 * l.self.now.splits + 1

abbrev pub decreases-groups : goal.decreases-groups
decreases-groups l = 4 * l.self.now.splits + 4

abbrev pub decreases-group : goal.decreases-group
decreases-group l = 4 * l.self.now.splits + 3

-- the branches so far are those of the nodes so far
abbrev pub invariant-branches-loop-i : goal.invariant-branches-loop-i
invariant-branches-loop-i l = record {
  each : Each (IsBranch (frame_of l.self.frame.now) l.self.splits l.self.way.now l.self.within.now) (map view (take l.i l.nodes)) (map tree_branch l.branches.items);
  conds : branch_conds (branches_seen l.branches.items) ≡ take l.i l.conds;
  counted : l.leaves ≡ l.initial.leaves + length (paths_by_rows (branches_seen l.branches.items));
  few : l.leaves ≤ 32;
}

-- the groups so far are those of the nodes so far
abbrev pub invariant-groups-loop-i : goal.invariant-groups-loop-i
invariant-groups-loop-i l = record {
  each : Each (IsGroup (frame_of l.self.frame.now) l.self.splits l.self.way.now) (map view (take l.i l.nodes)) (map tree_group l.groups.items);
  columns : group_columns (groups_seen l.groups.items) ≡ map (in_order l.self.within.now) (take l.i l.named);
  counted : l.leaves ≡ l.initial.leaves + length (paths_by_cols [] (groups_seen l.groups.items));
  few : l.leaves ≤ 32;
}
