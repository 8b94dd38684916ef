-- Why `Parts::new` meets its contract.
use Rattle.std.proofs.Common.{ap}
use Rattle.store.specs.Shelves.{all_on}
use Rattle.store.proofs.Keyed.{keyed_none}
use Rattle.store.proofs.parts.Parts.new.Goals as goal

pub invariant_of-result : goal.invariant_of-result
invariant_of-result c = keyed_none (all_on c.new.result.entries) (ap all_on c.new.ensures.empty)

pub returns-clause-keyed : goal.returns-clause-keyed
returns-clause-keyed c = keyed_none (all_on c.new.result.entries) (ap all_on c.new.ensures.empty)
