-- Why `laws::sides_may_turn` meets its contract.
use Rattle.reader.proofs.LawsOfSelect.{sides_turn}
use Rattle.reader.proofs.laws.sides_may_turn.Goals as goal

pub returns : goal.returns
returns c = sides_turn
