use Rattle.std.proofs.Common.{◌≡◌, map, take}
use Rattle.catalog.specs.Split.{tree_group}
use Rattle.catalog.proofs.tree_paths.columns_of.Given as goal

abbrev pub invariant-loop-group : goal.invariant-loop-group
invariant-loop-group l = l.columns.items ≡ map (λ group. group.columns) (map tree_group (take l.group-index l.groups))
