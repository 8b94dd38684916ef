-- Why `laws::select_adds_no_row` meets its contract.
use Rattle.meaning.proofs.LawProofs.{select_adds_no_row}
use Rattle.meaning.proofs.laws.select_adds_no_row.Goals as goal

pub returns : goal.returns
returns c = select_adds_no_row
