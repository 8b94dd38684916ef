use Rattle.runs.proofs.ConversationLemmas.{ends_rolled_back, whatever}
use Rattle.runs.proofs.conversation.roll_back.Goals as goal

pub returns-clause-ok : goal.returns-clause-ok
returns-clause-ok g c = whatever c.unless_ended.result (ends_rolled_back c.args.session.now.told c.execute-reply.new.self.told c.execute-reply.result c.execute-reply.ensures.ok c.execute-reply.ensures.err)
