use Rattle.commands.proofs.SessionLemmas.{talks_none}
use Rattle.commands.proofs.session_word.take_rows_of.Goals as goal

pub returns-in_default-clause-ok : goal.returns-in_default-clause-ok
returns-in_default-clause-ok g c = talks_none g.B.Database.seen (g.W.Write.contents c.args.output.now) c.args.database.now
