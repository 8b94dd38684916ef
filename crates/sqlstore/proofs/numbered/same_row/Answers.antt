use Rattle.std.proofs.Common.{refl, arith}
use Rattle.sqlstore.proofs.Rising.{rows_same}
use Rattle.sqlstore.proofs.numbered.same_row.Goals as goal

pub returns : goal.returns
returns c =
    let kept = c.loop-at.invariant in
    (λ yes. rows_same c.args.one.now c.args.other.now kept.0 (λ k low. kept.2 k (omega (arith, low))), λ both. refl)
