-- Why `laws::refusal_changes_nothing` meets its contract.
use Rattle.meaning.proofs.LawProofs.{refusal_changes_nothing}
use Rattle.meaning.proofs.laws.refusal_changes_nothing.Goals as goal

pub returns : goal.returns
returns c = refusal_changes_nothing
