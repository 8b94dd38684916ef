use Rattle.lines.specs.Script.{Runs}
use Rattle.lines.specs.Reply.{told_by}
use Rattle.commands.proofs.ImportLemmas.{comes_once, comes_so, stops_once}
use Rattle.commands.proofs.import.unless_told.Goals as goal

pub returns-then-is_told-clause-all : goal.returns-then-is_told-clause-all
returns-then-is_told-clause-all g c = λ _. comes_once g.B.Database.seen (Runs c.args.command.now) c.args.wanted.now c.args.database.now c.ask.new.database c.in_ok-reply.reply c.in_ok-reply.ensures.clean c.in_ok-reply.ensures.answers c.in_ok-reply.ensures.over (c.is_told.ensures.told c.if-is_told.true)

pub returns-clause-stops : goal.returns-clause-stops
returns-clause-stops g c = stops_once g.B.Database.seen c.args.command.now c.args.wanted.now c.args.database.now c.ask.new.database (told_by c.in_ok-reply.reply) (comes_so g.B.Database.seen (Runs c.args.command.now) c.args.database.now c.ask.new.database (told_by c.in_ok-reply.reply) c.in_ok-reply.ensures.clean c.in_ok-reply.ensures.answers c.in_ok-reply.ensures.over) (c.is_told.ensures.other c.if-is_told.false)
