use Rattle.commands.proofs.SessionLemmas.{talks_none}
use Rattle.commands.proofs.import_word.take_import.Goals as goal

pub returns-then-is_open-clause-ok : goal.returns-then-is_open-clause-ok
returns-then-is_open-clause-ok g c = talks_none g.B.Database.seen (g.W.Write.contents c.args.output.now) c.args.database.now

pub returns-in_default-clause-ok : goal.returns-in_default-clause-ok
returns-in_default-clause-ok g c = talks_none g.B.Database.seen (g.W.Write.contents c.args.output.now) c.args.database.now
