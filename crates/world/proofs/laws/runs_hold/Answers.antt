-- Why `laws::runs_hold` meets its contract.
use Rattle.world.proofs.ListIsBase.{list_holds}
use Rattle.world.proofs.laws.runs_hold.Goals as goal

pub returns : goal.returns
returns c = list_holds
