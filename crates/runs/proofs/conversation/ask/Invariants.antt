-- Each answer so far but the last one is an abort, of which nothing was told.
use Rattle.std.proofs.Common.{◌≡◌, ◌-◌, IfOk, OnErr}
use Rattle.wire.specs.Session.{AddsTold}
use Rattle.runs.proofs.conversation.ask.Given as goal

abbrev pub invariant-loop-reply : goal.invariant-loop-reply
invariant-loop-reply g l = IfOk l.reply (λ reply. AddsTold l.fn.session.told l.fn.command reply l.session.told) × OnErr l.reply (l.session.told ≡ l.fn.session.told)

abbrev pub decreases-loop-reply : goal.decreases-loop-reply
decreases-loop-reply g l = l.retry - l.retries
