use Rattle.protocol.proofs.Refusing.{request_law}
use Rattle.protocol.proofs.laws.requests_do_or_are_refused.Goals as goal

pub returns : goal.returns
returns c = request_law
