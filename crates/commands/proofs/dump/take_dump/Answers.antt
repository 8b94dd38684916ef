use Rattle.commands.proofs.ScriptFileLemmas.{stretch_talks}
use Rattle.commands.proofs.dump.take_dump.Goals as goal

pub returns-clause-ok : goal.returns-clause-ok
returns-clause-ok g c = stretch_talks g.B.Database.seen c.args.mode _ (g.W.Write.contents c.args.output.now) (g.W.Write.contents c.dump_all.new.output) c.args.database.now c.dump_all.new.database _ c.dump_all.ensures.clean c.in_ok-dump_all.ensures.ok
