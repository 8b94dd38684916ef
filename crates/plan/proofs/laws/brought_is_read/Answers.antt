-- Why `laws::brought_is_read` meets its contract.
use Rattle.plan.proofs.Among.{brought_is_read}
use Rattle.plan.proofs.laws.brought_is_read.Goals as goal

pub returns : goal.returns
returns c = brought_is_read c.leaf_names_are_unique.ensures
