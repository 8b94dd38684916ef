-- Why no changes change nothing.
use Rattle.store.proofs.Changing.{changed_none, touches_none}
use Rattle.store.proofs.laws.nothing_changes.Goals as goal

pub returns : goal.returns
returns c = λ leaf content. (changed_none leaf content, touches_none leaf)
