-- Why `laws::reads_in_order` meets its contract.
use Rattle.meaning.proofs.JoinLaws.{reads_in_order}
use Rattle.meaning.proofs.laws.reads_in_order.Goals as goal

pub returns : goal.returns
returns c = reads_in_order
