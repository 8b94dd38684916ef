use Rattle.commands.proofs.ScriptFileLemmas.{script_talks}
use Rattle.commands.proofs.SessionLemmas.{talks_none}
use Rattle.commands.proofs.script_file.take_script.Goals as goal

pub returns-in_ok-tell_answered-in-Ok-clause-ok : goal.returns-in_ok-tell_answered-in-Ok-clause-ok
returns-in_ok-tell_answered-in-Ok-clause-ok g c = script_talks g.B.Database.seen c.args.mode c.as_slice.result.now (g.W.Write.contents c.args.output.now) (g.W.Write.contents c.answer_script.new.output) c.args.database.now c.answer_script.new.database _ c.answer_script.ensures.clean c.in_ok-answered-in-Ok.ensures.ok

pub returns-in_ok-text-in-Err : goal.returns-in_ok-text-in-Err
returns-in_ok-text-in-Err g c = record { ok = talks_none g.B.Database.seen (g.W.Write.contents c.args.output.now) c.args.database.now; err = tt }
