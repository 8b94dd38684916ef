-- Why `laws::joins_may_turn` meets its contract.
use Rattle.meaning.proofs.JoinLaws.{joins_may_turn}
use Rattle.meaning.proofs.laws.joins_may_turn.Goals as goal

pub returns : goal.returns
returns c = joins_may_turn
