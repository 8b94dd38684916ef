use Rattle.protocol.proofs.SerialLaw.{serial_law}
use Rattle.protocol.proofs.SplitRuns.{splits_lawful}
use Rattle.protocol.proofs.laws.serial_law_of_two_splits.Goals as goal

pub returns : goal.returns
returns c = serial_law splits_lawful
