use Rattle.std.proofs.Common.{List, map, ap, sym, ◌∙◌}
use Rattle.catalog.specs.Split.{TreeBranch, TreeGroup, ByRows, ByCols, branches_of, groups_of, tree_of, tree_branch, tree_group}
use Rattle.catalog.proofs.Trees.{tree_of-ByRows, tree_of-ByCols}
use Rattle.catalog.proofs.split.+copies.Goals as goal

pub Split::copy-returns-in_ok-copies-in-ByRows : goal.Split::copy-returns-in_ok-copies-in-ByRows
Split::copy-returns-in_ok-copies-in-ByRows t c =
    tree_of-ByRows c.in_ok-copies-in-ByRows.copies
    ∙ ap (λ (bs : List TreeBranch). ByRows (branches_of bs)) (c.in_ok-copies-in-ByRows.ensures ∙ ap (map tree_branch) c.as_slice.ensures.value)
    ∙ sym (ap tree_of c.in-ByRows.is ∙ tree_of-ByRows c.in-ByRows.branches)

pub Split::copy-returns-in_ok-copies-in-ByCols : goal.Split::copy-returns-in_ok-copies-in-ByCols
Split::copy-returns-in_ok-copies-in-ByCols t c =
    tree_of-ByCols c.in_ok-copies-in-ByCols.copies
    ∙ ap (λ (gs : List TreeGroup). ByCols (groups_of gs)) (c.in_ok-copies-in-ByCols.ensures ∙ ap (map tree_group) c.as_slice-in-ByCols.ensures.value)
    ∙ sym (ap tree_of c.in-ByCols.is ∙ tree_of-ByCols c.in-ByCols.groups)
