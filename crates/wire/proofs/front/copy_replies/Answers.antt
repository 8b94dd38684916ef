-- Why `copy_replies` meets its contract.
use Rattle.wire.proofs.front.copy_replies.Goals as goal

pub loop-notice-preserved : goal.loop-notice-preserved
loop-notice-preserved c = λ given. c.copy_reply.ensures (c.loop-notice.invariant given)
