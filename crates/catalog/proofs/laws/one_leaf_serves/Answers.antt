use Rattle.catalog.proofs.Cover.{needed_is_wanted, one_serves, one_serves_below}
use Rattle.catalog.proofs.Exactly.{exactly}
use Rattle.catalog.proofs.laws.one_leaf_serves.Goals as goal

pub returns : goal.returns
returns c = record { whole = one_serves; below = one_serves_below; any = exactly; wanted = needed_is_wanted }
