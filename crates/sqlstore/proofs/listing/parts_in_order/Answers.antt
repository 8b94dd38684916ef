use Rattle.std.proofs.Common.{refl}
use Rattle.sqlstore.proofs.Ascending.{values_in}
use Rattle.sqlstore.proofs.listing.parts_in_order.Goals as goal

pub returns-then-keys_rise-clause-parts : goal.returns-then-keys_rise-clause-parts
returns-then-keys_rise-clause-parts c = values_in c.args.leaves.now c.args.leaf.now c.args.rows.now c.in-Ok.parts.items c.in-Ok.ensures.parts ((rw c.deref.ensures.value at c.if-keys_rise.ensures) refl)
