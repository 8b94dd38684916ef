use Rattle.protocol.proofs.Recovering.{recovery_law}
use Rattle.protocol.proofs.ToyLaws.{toy_lawful}
use Rattle.protocol.proofs.laws.restarts_recover.Goals as goal

pub returns : goal.returns
returns c = recovery_law toy_lawful
