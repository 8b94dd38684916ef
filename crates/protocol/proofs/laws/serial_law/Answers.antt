use Rattle.protocol.proofs.SerialLaw.{serial_law}
use Rattle.protocol.proofs.ToyLaws.{toy_lawful}
use Rattle.protocol.proofs.laws.serial_law.Goals as goal

pub returns : goal.returns
returns c = serial_law toy_lawful
