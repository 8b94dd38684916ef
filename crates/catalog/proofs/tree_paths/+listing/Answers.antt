use Rattle.std.proofs.Common.{◌≡◌, ◌++◌, List, [], ◌∷◌, map, get_or, OnOk, subst, ap, ap₂, sym, ◌∙◌, arith}
use Rattle.std.proofs.lemmas.List.{get_or-map, length-map}
use Rattle.catalog.specs.declared.path.Step.{Step}
use Rattle.catalog.specs.Path.{column_step}
use Rattle.catalog.specs.declared.path.Path.{Path}
use Rattle.catalog.specs.Split.{tree_of, tree_branch, tree_group}
use Rattle.catalog.proofs.TreePaths.{rows_listed, cols_listed, groups_step, paths_from}
use Rattle.catalog.proofs.Trees.{tree_of-ByRows, tree_of-ByCols}
use Rattle.catalog.proofs.tree_paths.+listing.Goals as goal

pub put_paths-returns-in-ByRows : goal.put_paths-returns-in-ByRows
put_paths-returns-in-ByRows t c =
    let P : List Path → Type 0 = λ more. OnOk c.put_branches.result (c.put_branches.new.paths.items ≡ c.args.paths.now.items ++ more) in
    subst P (rows_listed c.args.above.now (tree_of c.args.split.now) (map tree_branch c.in-ByRows.branches.items) (map tree_branch c.as_slice.result.now)
    (ap tree_of c.in-ByRows.is ∙ tree_of-ByRows c.in-ByRows.branches) (ap (map tree_branch) c.as_slice.ensures.value))
    c.put_branches.ensures

pub put_paths-returns-in-ByCols : goal.put_paths-returns-in-ByCols
put_paths-returns-in-ByCols t c =
    let P : List Path → Type 0 = λ more. OnOk c.put_groups.result (c.put_groups.new.paths.items ≡ c.args.paths.now.items ++ more) in
    subst P (cols_listed c.args.above.now (tree_of c.args.split.now) (map tree_group c.in-ByCols.groups.items) (map tree_group c.as_slice-in-ByCols.result.now)
    (ap tree_of c.in-ByCols.is ∙ tree_of-ByCols c.in-ByCols.groups) (ap (map tree_group) c.as_slice-in-ByCols.ensures.value))
    c.put_groups.ensures

pub put_groups-loop-place-preserved : goal.put_groups-loop-place-preserved
put_groups-loop-place-preserved t c =
    let groups = map tree_group c.args.groups.now in
    let group = tree_group (get_or c.args.groups.now c.loop-place.place c.index-groups-place.result) in
    let within = c.loop-place-test.true in
    let count = length-map c.args.groups.now tree_group in
    let here : group ≡ get_or groups c.loop-place.place group =
    sym (get_or-map tree_group c.args.groups.now c.loop-place.place c.index-groups-place.result group within) in
    let step = c.in_ok-column_step.ensures ∙ ap (column_step c.loop-place.place) (c.as_slice.ensures.value ∙ c.in_ok-columns.ensures) in
    groups_step c.loop-place.paths.items c.put_paths.new.paths.items (c.args.paths.now.items ++ paths_from c.args.above.now 0 groups) c.args.above.now c.as_slice-in-loop-place.result.now c.loop-place.place groups group
    (omega (arith, within, count)) here c.loop-place.invariant
    (c.as_slice-in-loop-place.ensures.value ∙ c.in_ok-push.ensures.items ∙ ap₂ (λ (steps : List Step) (one : Step). steps ++ one ∷ []) c.in_ok-longer.ensures step)
    c.in_ok-put_paths.ensures
