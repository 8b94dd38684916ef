-- Why `test_values::test_values_fit` meets its contract.
use Rattle.terms.proofs.Rows.{test_value_fits}
use Rattle.terms.proofs.test_values.test_values_fit.Goals as goal

pub returns : goal.returns
returns c = test_value_fits
