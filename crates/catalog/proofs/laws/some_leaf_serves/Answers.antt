use Rattle.catalog.proofs.Cover.{some_serves, some_serves_below}
use Rattle.catalog.proofs.laws.some_leaf_serves.Goals as goal

pub returns : goal.returns
returns c = record { whole = some_serves; below = some_serves_below }
