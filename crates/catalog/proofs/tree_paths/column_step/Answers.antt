use Rattle.std.proofs.Common.{◌∙◌}
use Rattle.catalog.proofs.TreePaths.{step_is}
use Rattle.catalog.proofs.tree_paths.column_step.Goals as goal

pub returns : goal.returns
returns c =
    step_is c.args.groups.now c.args.place c.index-groups-place.result c.in_ok-group.group c.new-before.result c.new-after.result c.requires (c.in_ok-group.ensures ∙ c.index-groups-place.is)
    (c.new-before.ensures ∙ c.in_ok-copy_all.ensures) (c.new-after.ensures ∙ c.in_ok-copy_all-2.ensures)
