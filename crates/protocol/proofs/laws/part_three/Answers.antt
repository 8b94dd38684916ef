use Rattle.protocol.proofs.LineOfCommits.{part_three}
use Rattle.protocol.proofs.ToyLaws.{toy_lawful}
use Rattle.protocol.proofs.laws.part_three.Goals as goal

pub returns : goal.returns
returns c = part_three toy_lawful
