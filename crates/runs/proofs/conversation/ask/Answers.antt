use Rattle.runs.proofs.conversation.ask.Goals as goal

pub loop-reply-init : goal.loop-reply-init
loop-reply-init g c = (c.execute-reply.ensures.ok, c.execute-reply.ensures.err)

pub returns-clause-ok : goal.returns-clause-ok
returns-clause-ok g c = c.loop-reply.invariant.0

pub returns-clause-err : goal.returns-clause-err
returns-clause-err g c = c.loop-reply.invariant.1
