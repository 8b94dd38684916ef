-- Why `laws::one_client_is_serial` meets its contract.
use Rattle.protocol.proofs.OneClient.{one_at_a_time}
use Rattle.world.proofs.laws.one_client_is_serial.Goals as goal

pub returns : goal.returns
returns c = one_at_a_time c.language_is_lawful.ensures.of_language
