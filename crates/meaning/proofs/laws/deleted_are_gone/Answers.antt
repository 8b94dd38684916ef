-- Why `laws::deleted_are_gone` meets its contract.
use Rattle.meaning.proofs.LawProofs.{deleted_are_gone}
use Rattle.meaning.proofs.laws.deleted_are_gone.Goals as goal

pub returns : goal.returns
returns c = deleted_are_gone
