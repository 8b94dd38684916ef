-- Why `desk_cell` meets its contract.
use Rattle.std.proofs.Common.{◌∙◌, ap, sym}
use Rattle.catalog.specs.Relation.{catalogue_of}
use Rattle.world.proofs.OneCatalogue.{in_force_is}
use Rattle.history.proofs.Following.{all_of}
use Rattle.wire.proofs.cells.desk_cell.Goals as goal

pub new-requires : goal.new-requires
new-requires g c = λ db over. c.in-Ok.ensures.ok db over
