-- Why `laws::one_client_is_a_run` meets its contract.
use Rattle.protocol.proofs.ForgottenLetters.{reached_law}
use Rattle.world.proofs.laws.one_client_is_a_run.Goals as goal

pub returns : goal.returns
returns c = reached_law c.language_is_lawful.ensures.of_language
