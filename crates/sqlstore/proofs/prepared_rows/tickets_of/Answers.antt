use Rattle.std.proofs.Common.{arith}
use Rattle.std.specs.FinMap as fin
use Rattle.sqlstore.specs.Sound.{IsNumbered}
use Rattle.sqlstore.proofs.Backward.{one_before, all_before, prepared_more}
use Rattle.sqlstore.proofs.prepared_rows.tickets_of.Goals as goal

pub loop-at-preserved : goal.loop-at-preserved
loop-at-preserved c =
    let rows = c.args.rows.now in
    let row = c.index-rows-at.result in
    let kept = c.loop-at.invariant in
    let is = one_before rows c.loop-at.at row (omega arith) kept.0 c.index-rows-at.is in
    let put = c.in_ok-put_prepared.ensures in
    (omega arith, λ ticket. prepared_more fin.empty ticket _ _ row _ _ is (kept.1 ticket) (put.ok ticket), all_before IsNumbered rows c.loop-at.at row is put.tests.learnt kept.2)
