-- Why `laws::parts_one_and_two` meets its contract.
use Rattle.protocol.proofs.LineOfCommits.{parts_one_and_two}
use Rattle.world.proofs.laws.parts_one_and_two.Goals as goal

pub returns : goal.returns
returns c = parts_one_and_two c.language_is_lawful.ensures.of_language
