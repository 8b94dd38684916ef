use Rattle.catalog.proofs.Cells.{cells_decide}
use Rattle.catalog.proofs.laws.cells_decide.Goals as goal

pub returns : goal.returns
returns c = cells_decide c.test_rows_suffice.ensures c.test_values_fit.ensures
