use Rattle.protocol.proofs.AppliedOnce.{applied_whole_and_once}
use Rattle.protocol.proofs.ToyLaws.{toy_lawful}
use Rattle.protocol.proofs.laws.applied_whole_and_once.Goals as goal

pub returns : goal.returns
returns c = applied_whole_and_once toy_lawful
