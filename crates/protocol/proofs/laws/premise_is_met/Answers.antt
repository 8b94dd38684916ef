use Rattle.protocol.proofs.Runs.{premise_is_met}
use Rattle.protocol.proofs.laws.premise_is_met.Goals as goal

pub returns : goal.returns
returns c = premise_is_met
