-- Why `restarts_recover` meets its contract.
use Rattle.protocol.proofs.Recovering.{recovery_law}
use Rattle.world.proofs.laws.restarts_recover.Goals as goal

pub returns : goal.returns
returns c = recovery_law c.language_is_lawful.ensures.of_language
