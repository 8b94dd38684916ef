-- Why `laws::star_lists_all` meets its contract.
use Rattle.reader.proofs.LawsOfSelect.{star_lists}
use Rattle.reader.proofs.laws.star_lists_all.Goals as goal

pub returns : goal.returns
returns c = star_lists
