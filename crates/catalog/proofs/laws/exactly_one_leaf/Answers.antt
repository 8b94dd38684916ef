use Rattle.catalog.proofs.Fragments.{exactly_one_leaf}
use Rattle.catalog.proofs.laws.exactly_one_leaf.Goals as goal

pub returns : goal.returns
returns c = exactly_one_leaf
