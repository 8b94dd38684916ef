-- Why `value::equal_values_are_one` meets its contract.
use Rattle.terms.proofs.SortedTests.{exact_values}
use Rattle.terms.proofs.value.equal_values_are_one.Goals as goal

pub returns : goal.returns
returns c = exact_values
