use Rattle.lines.specs.Reply.{told_by}
use Rattle.lines.specs.Script.{task_of}
use Rattle.commands.proofs.SessionLemmas.{talks_answer}
use Rattle.commands.proofs.session_word.take_item.Goals as goal

pub returns-clause-ok : goal.returns-clause-ok
returns-clause-ok g c = talks_answer g.B.Database.seen (g.W.Write.contents c.args.output.now) (g.W.Write.contents c.write_text.new.output) c.args.database.now c.answer.new.self (record { mode = c.args.mode; task = task_of c.args.item; told = told_by c.in_ok-reply.reply }) c.text.result.now c.in_ok-write_text.ensures.written c.text.ensures c.in_ok-reply.ensures.clean c.in_ok-reply.ensures.answers c.in_ok-reply.ensures.over
