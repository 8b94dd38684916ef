use Rattle.terms.proofs.Spelled.{spelled_is_read}
use Rattle.terms.proofs.stored.spelled_is_read.Goals as goal

pub returns : goal.returns
returns c = spelled_is_read
