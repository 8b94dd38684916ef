-- Why `take_parts` meets its contract: the first statement of a line is a stretch, and so are the others.
use Rattle.commands.proofs.SessionLemmas.{on_ok, talks_then}
use Rattle.commands.proofs.session.+take_parts.Goals as goal

pub returns-in_ok-take_part-in-Some-clause-ok : goal.returns-in_ok-take_part-in-Some-clause-ok
returns-in_ok-take_part-in-Some-clause-ok g t c =
    on_ok c.take_parts.result
    (talks_then g.B.Database.seen (g.W.Write.contents c.args.output.now) (g.W.Write.contents c.take_part.new.output) (g.W.Write.contents c.take_parts.new.output) c.args.database.now c.take_part.new.database c.take_parts.new.database c.in_ok-take_part-in-Some.ensures.ok)
    c.take_parts.ensures.ok
