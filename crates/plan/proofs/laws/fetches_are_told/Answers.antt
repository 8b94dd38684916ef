-- Why `laws::fetches_are_told` meets its contract.
use Rattle.plan.proofs.PickedStated.{fetches_are, one_fetches}
use Rattle.plan.proofs.laws.fetches_are_told.Goals as goal

pub returns-clause-told : goal.returns-clause-told
returns-clause-told c = fetches_are c.some_leaf_serves.ensures.whole

pub returns-clause-one : goal.returns-clause-one
returns-clause-one c = one_fetches
