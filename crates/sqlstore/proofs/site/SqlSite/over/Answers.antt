use Rattle.sqlstore.proofs.Names.{are_named}
use Rattle.sqlstore.proofs.site.SqlSite.over.Goals as goal

pub invariant_of-result : goal.invariant_of-result
invariant_of-result g c = record { settled = c.requires; named = are_named c.args.leaves.items (rw c.as_slice.ensures.value at c.read_numbers.ensures) }
