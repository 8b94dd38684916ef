use Rattle.catalog.proofs.Fragments.{some_leaf}
use Rattle.catalog.proofs.laws.some_leaf.Goals as goal

pub returns : goal.returns
returns c = some_leaf
