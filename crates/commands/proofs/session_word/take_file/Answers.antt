use Rattle.commands.proofs.SessionLemmas.{talks_none}
use Rattle.commands.proofs.session_word.take_file.Goals as goal

pub returns-then-is_empty-clause-ok : goal.returns-then-is_empty-clause-ok
returns-then-is_empty-clause-ok g c = talks_none g.B.Database.seen (g.W.Write.contents c.args.output.now) c.args.database.now
