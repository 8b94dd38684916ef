use Rattle.protocol.proofs.ForgottenLetters.{reached_law}
use Rattle.protocol.proofs.ToyLaws.{toy_lawful}
use Rattle.protocol.proofs.laws.one_client_is_a_run.Goals as goal

pub returns : goal.returns
returns c = reached_law toy_lawful
