use Rattle.protocol.proofs.LineOfCommits.{parts_one_and_two}
use Rattle.protocol.proofs.ToyLaws.{toy_lawful}
use Rattle.protocol.proofs.laws.parts_one_and_two.Goals as goal

pub returns : goal.returns
returns c = parts_one_and_two toy_lawful
