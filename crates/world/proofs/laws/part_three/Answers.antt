-- Why `laws::part_three` meets its contract.
use Rattle.protocol.proofs.LineOfCommits.{part_three}
use Rattle.world.proofs.laws.part_three.Goals as goal

pub returns : goal.returns
returns c = part_three c.language_is_lawful.ensures.of_language
