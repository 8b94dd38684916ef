-- Why `laws::update_keeps_keys` meets its contract.
use Rattle.meaning.proofs.LawProofs.{update_keeps_keys}
use Rattle.meaning.proofs.laws.update_keeps_keys.Goals as goal

pub returns : goal.returns
returns c = update_keeps_keys
