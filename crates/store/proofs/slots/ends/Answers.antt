-- Why `slots::ends` meets its contract.
use Rattle.std.proofs.Common.{ap, arith}
use Rattle.store.proofs.Near.{leaf_less, leaf_greater}
use Rattle.store.proofs.slots.ends.Goals as goal

pub returns : goal.returns
returns c =
    let leaf = c.args.leaf.now in
    let low = c.in-Ok.ensures in
    let high = c.in-Ok-slot_near.ensures in
    let before = c.in_ok-before.ensures in
    let after = c.in_ok-after.ensures in (
      leaf_less c.in-Ok.from.leaf leaf (ap (λ l. l.relation) low) (rw low (omega (arith, before.0, before.1))),
      leaf_greater c.in-Ok-slot_near.to.leaf leaf (ap (λ l. l.relation) high) (rw high (omega (arith, after.0, after.1))),
    )
