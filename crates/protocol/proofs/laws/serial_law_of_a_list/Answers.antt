use Rattle.protocol.proofs.TwoSites.{law_of_two}
use Rattle.protocol.proofs.laws.serial_law_of_a_list.Goals as goal

pub returns : goal.returns
returns c = law_of_two
