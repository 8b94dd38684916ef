-- Why `note_begun` meets its contract.
use Rattle.history.specs.Standing.{known_call}
use Rattle.history.specs.Told.{begun_by, later}
use Rattle.history.proofs.LastCalls.{begun_more}
use Rattle.history.proofs.last_calls.note_begun.Goals as goal

pub loop-notice-preserved : goal.loop-notice-preserved
loop-notice-preserved c = λ txn.
    begun_more c.args.notices.now c.loop-notice.notice-index c.notice-item.result c.loop-notice.last c.insert.new.self c.args.call (later (begun_by c.args.call.now c.args.notices.now txn) (known_call c.args.last.now txn)) c.loop-notice-test.true c.notice-item.is c.in_ok-insert.ensures.updates txn (c.loop-notice.invariant txn)
