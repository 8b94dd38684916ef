use Rattle.commands.specs.Session.{Talks}
use Rattle.commands.proofs.session.talk.Given as goal

abbrev pub invariant-loop-number : goal.invariant-loop-number
invariant-loop-number g l = Talks g.B.Database.seen (g.W.Write.contents l.fn.output) (g.W.Write.contents l.output) l.fn.database l.database
