-- Why `laws::unmatched_is_dropped` meets its contract.
use Rattle.meaning.proofs.JoinLaws.{unmatched_is_dropped}
use Rattle.meaning.proofs.laws.unmatched_is_dropped.Goals as goal

pub returns : goal.returns
returns c = unmatched_is_dropped
