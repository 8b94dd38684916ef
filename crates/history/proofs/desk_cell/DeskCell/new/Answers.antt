-- Why the coordinator's first history replays.
use Rattle.history.proofs.DeskCells.{desk_opens}
use Rattle.history.proofs.desk_cell.DeskCell.new.Goals as goal

pub invariant_of-result : goal.invariant_of-result
invariant_of-result g c =
    let D = g.D.DeskStore in
    let told = c.in-Ok-kept.ensures in
    desk_opens D.is_clean D.is_sound D.refused D.kept c.in-Ok.catalogs.items c.in-Ok-kept.opening c.new.result.items c.args.desk c.kept.new.self
    c.new.ensures.items c.in-Ok.ensures told.leaves_store told.memory told.catalog told.later told.learnt told.all told.same c.requires
