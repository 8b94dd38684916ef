use Rattle.catalog.proofs.OneList.{cells_are_fixed}
use Rattle.catalog.proofs.laws.cells_are_fixed.Goals as goal

pub returns : goal.returns
returns c = cells_are_fixed
