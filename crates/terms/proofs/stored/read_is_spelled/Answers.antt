use Rattle.terms.proofs.Spelled.{read_is_spelled}
use Rattle.terms.proofs.stored.read_is_spelled.Goals as goal

pub returns : goal.returns
returns c = read_is_spelled
