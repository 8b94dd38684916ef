use Rattle.protocol.proofs.Transaction.{client_law}
use Rattle.protocol.proofs.ToyLaws.{toy_lawful, toy_once}
use Rattle.protocol.proofs.laws.one_client_commits.Goals as goal

pub returns : goal.returns
returns c = client_law toy_lawful toy_once
