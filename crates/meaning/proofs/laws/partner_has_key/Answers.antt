-- Why `laws::partner_has_key` meets its contract.
use Rattle.meaning.proofs.LawProofs.{partner_has_key}
use Rattle.meaning.proofs.laws.partner_has_key.Goals as goal

pub returns : goal.returns
returns c = partner_has_key
