-- Why `Changes::new` meets its contract.
use Rattle.store.proofs.Keyed.{keyed_none}
use Rattle.store.proofs.changes.Changes.new.Goals as goal

pub invariant_of-result : goal.invariant_of-result
invariant_of-result c = keyed_none c.new.result.entries c.new.ensures.empty
