use Rattle.std.proofs.Common.{◌∷◌, [], IfSome, Ok, Option, ap, subst, sym, ◌∙◌}
use Rattle.lines.specs.declared.reply.Reply.{Reply}
use Rattle.lines.specs.Reply.{told_by}
use Rattle.commands.specs.Import.{Comes, StopsAt, begins, ending}
use Rattle.commands.proofs.ImportCounts.{stops_at_begin, stops_at_commit}
use Rattle.commands.proofs.ImportLemmas.{before_none, before_some, comes_none, comes_then, on_reply}
use Rattle.commands.proofs.import.turn_over.Goals as goal

pub returns-then-not-is_first-clause-all : goal.returns-then-not-is_first-clause-all
returns-then-not-is_first-clause-all g c = λ _. subst (λ tasks. Comes g.B.Database.seen tasks c.args.database.now c.args.database.now) (before_none c.args.many c.args.number (sym c.is_first.ensures ∙ c.if-not-is_first.true)) (comes_none g.B.Database.seen c.args.database.now)

pub returns-in-Some-clause-stops : goal.returns-in-Some-clause-stops
returns-in-Some-clause-stops g c =
    let stops = subst (λ (told : Option Reply). IfSome told (λ reply. StopsAt g.B.Database.seen [] (ending c.args.number) c.args.database.now c.end.new.database (told_by reply))) c.in-Some.is c.in_ok-reply.ensures.stops in
    stops_at_commit g.B.Database.seen c.args.many c.args.number c.args.committed.now c.args.database.now c.end.new.database (told_by c.in-Some.reply) (sym c.is_first.ensures ∙ c.if-not-is_first.false) stops

pub returns-clause-all : goal.returns-clause-all
returns-clause-all g c = λ told.
    subst (λ tasks. Comes g.B.Database.seen tasks c.args.database.now c.begin.new.database) (before_some c.args.many c.args.number (sym c.is_first.ensures ∙ c.if-not-is_first.false))
    (comes_then g.B.Database.seen (ending c.args.number) (begins ∷ []) c.args.database.now c.end.new.database c.begin.new.database (c.in_ok-reply.ensures.all (ap (λ r. Ok r) c.in_default.is)) (c.begin.ensures.all told))

pub returns-clause-stops : goal.returns-clause-stops
returns-clause-stops g c = on_reply c.begin.result (λ reply stops. stops_at_begin g.B.Database.seen c.args.many c.args.number c.args.committed.now c.args.database.now c.end.new.database c.begin.new.database (told_by reply) (sym c.is_first.ensures ∙ c.if-not-is_first.false) (c.in_ok-reply.ensures.all (ap (λ r. Ok r) c.in_default.is)) stops) c.begin.ensures.stops
