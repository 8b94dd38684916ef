-- Why `is_among` meets its contract.
use Rattle.std.proofs.Common.{refl}
use Rattle.history.specs.Standing.{known_call}
use Rattle.history.proofs.Heard.{among_at, among_rest}
use Rattle.history.proofs.told.is_among.Goals as goal

pub returns-then-branch : goal.returns-then-branch
returns-then-branch c =
    let heard = c.in_ok-is_heard_in.ensures.0 c.if-branch.true in
    let among = among_at c.args.schema.now.relations (known_call c.args.last.now) c.args.told.now c.args.notices.now c.loop-notice.notice-index c.notice-item.result c.loop-notice-test.true c.notice-item.is heard in
    (λ e. among, λ is. refl)

pub loop-notice-preserved : goal.loop-notice-preserved
loop-notice-preserved c = λ so.
    among_rest c.args.schema.now.relations (known_call c.args.last.now) c.args.told.now c.args.notices.now c.loop-notice.notice-index c.notice-item.result c.loop-notice-test.true c.notice-item.is
    (λ heard. let yes = c.in_ok-is_heard_in.ensures.1 heard in let no = c.if-branch.false in cc) (c.loop-notice.invariant so)
