use Rattle.protocol.proofs.OneClient.{one_at_a_time}
use Rattle.protocol.proofs.ToyLaws.{toy_lawful}
use Rattle.protocol.proofs.laws.one_client_is_serial.Goals as goal

pub returns : goal.returns
returns c = one_at_a_time toy_lawful
