-- Why `laws::applied_whole_and_once` meets its contract.
use Rattle.protocol.proofs.AppliedOnce.{applied_whole_and_once}
use Rattle.world.proofs.laws.applied_whole_and_once.Goals as goal

pub returns : goal.returns
returns c = applied_whole_and_once c.language_is_lawful.ensures.of_language
