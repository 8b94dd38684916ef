-- Why `satisfiable::least_row` meets its contract.
use Rattle.terms.proofs.LeastRow.{one_more}
use Rattle.terms.proofs.satisfiable.least_row.Goals as goal

pub loop-col-preserved : goal.loop-col-preserved
loop-col-preserved c =
    one_more c.args.conds.now c.args.kinds.now c.loop-col.values.items c.push.new.self.items c.loop-col.col _ c.in_ok-value.field-0 c.in-Some.value c.loop-col-test.true c.in-Some.is c.in_ok-value.ensures.some c.in_ok-push-in-Some.ensures.items c.loop-col.invariant
