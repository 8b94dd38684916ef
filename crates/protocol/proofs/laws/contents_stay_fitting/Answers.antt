use Rattle.protocol.proofs.Fitting.{fitting_law}
use Rattle.protocol.proofs.ToyLaws.{toy_lawful}
use Rattle.protocol.proofs.laws.contents_stay_fitting.Goals as goal

pub returns : goal.returns
returns c = fitting_law toy_lawful
