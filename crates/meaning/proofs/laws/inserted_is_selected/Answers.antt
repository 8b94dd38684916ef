-- Why `laws::inserted_is_selected` meets its contract.
use Rattle.meaning.proofs.LawProofs.{inserted_is_selected}
use Rattle.meaning.proofs.laws.inserted_is_selected.Goals as goal

pub returns : goal.returns
returns c = inserted_is_selected
