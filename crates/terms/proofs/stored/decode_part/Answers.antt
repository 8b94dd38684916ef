use Rattle.std.proofs.Common.{arith}
use Rattle.terms.proofs.Spelled.{bytes_spell}
use Rattle.terms.proofs.stored.decode_part.Goals as goal

pub unreachable-requires : goal.unreachable-requires
unreachable-requires c =
    let stored = (bytes_spell c.args.bytes.now c.in_ok-values.values.items (λ i. omega (arith, c.type_inv.bytes i)) c.in_ok-values.ensures).0 in
    let is_some = (rw c.in_default.is at c.in_ok-part.ensures.storable) in
    grind (arith, is_some.1 stored)
