use Rattle.catalog.proofs.LeafNames.{leaf_names_are_unique}
use Rattle.catalog.proofs.laws.leaf_names_are_unique.Goals as goal

pub returns : goal.returns
returns c = leaf_names_are_unique
