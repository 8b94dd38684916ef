use Rattle.catalog.specs.Split.{tree_branch, tree_group}
use Rattle.catalog.proofs.SameTrees.{rows_same, cols_same, differ_at}
use Rattle.catalog.proofs.split.+comparisons.Goals as goal

pub Split::same-returns-in-ByRows-other : goal.Split::same-returns-in-ByRows-other
Split::same-returns-in-ByRows-other t c =
    rows_same c.same_branches.result c.args.self.now c.args.other.now c.in-ByRows.branches c.in-ByRows-other.others c.as_slice.result.now c.as_slice-in-ByRows-other.result.now
    c.in-ByRows.is c.in-ByRows-other.is c.as_slice.ensures.value c.as_slice-in-ByRows-other.ensures.value c.same_branches.ensures

pub Split::same-returns-in-ByCols-other : goal.Split::same-returns-in-ByCols-other
Split::same-returns-in-ByCols-other t c =
    cols_same c.same_groups.result c.args.self.now c.args.other.now c.in-ByCols.groups c.in-ByCols-other.others c.as_slice-in-ByCols-other.result.now c.as_slice-in-ByCols-other-2.result.now
    c.in-ByCols.is c.in-ByCols-other.is c.as_slice-in-ByCols-other.ensures.value c.as_slice-in-ByCols-other-2.ensures.value c.same_groups.ensures

pub same_branches-returns-then-not-same_branch : goal.same_branches-returns-then-not-same_branch
same_branches-returns-then-not-same_branch t c =
    differ_at tree_branch c.args.branches.now c.args.others.now c.loop-place.place _ _ c.index-branches-place.result c.index-others-place.result c.same_branch.result
    c.index-branches-place.is c.index-others-place.is c.loop-place-test.true c.same_branch.ensures c.if-not-same_branch.true

pub same_groups-returns-then-not-same_group : goal.same_groups-returns-then-not-same_group
same_groups-returns-then-not-same_group t c =
    differ_at tree_group c.args.groups.now c.args.others.now c.loop-place.place _ _ c.index-groups-place.result c.index-others-place.result c.same_group.result
    c.index-groups-place.is c.index-others-place.is c.loop-place-test.true c.same_group.ensures c.if-not-same_group.true
