use Rattle.std.proofs.Common.{refl}
use Rattle.commands.specs.Session.{Greeting, greeting_text}
use Rattle.commands.proofs.SessionLemmas.{talks_aside, talks_then}
use Rattle.commands.proofs.session.talk.Goals as goal

pub loop-number-init : goal.loop-number-init
loop-number-init g c = talks_aside g.B.Database.seen (g.W.Write.contents c.args.output.now) (g.W.Write.contents c.write_text.new.output) c.args.database.now greeting_text c.in_ok-write_text.ensures.written (Greeting, refl) tt

pub loop-number-preserved : goal.loop-number-preserved
loop-number-preserved g c = talks_then g.B.Database.seen (g.W.Write.contents c.args.output.now) (g.W.Write.contents c.loop-number.output) (g.W.Write.contents c.take_turn.new.output) c.args.database.now c.loop-number.database c.take_turn.new.database c.loop-number.invariant c.in_ok-turn.ensures.ok

pub returns-then-eq-clause-ok : goal.returns-then-eq-clause-ok
returns-then-eq-clause-ok g c = talks_then g.B.Database.seen (g.W.Write.contents c.args.output.now) (g.W.Write.contents c.loop-number.output) (g.W.Write.contents c.take_turn.new.output) c.args.database.now c.loop-number.database c.take_turn.new.database c.loop-number.invariant c.in_ok-turn.ensures.ok
