use Rattle.std.proofs.Common.{Ok, ap}
use Rattle.commands.proofs.ImportTalks.{cut_talks, whole_talks}
use Rattle.commands.proofs.SessionLemmas.{on_ok}
use Rattle.lines.specs.Reply.{told_by}
use Rattle.commands.proofs.import_word.bring_in.Goals as goal

pub returns-in-All-clause-ok : goal.returns-in-All-clause-ok
returns-in-All-clause-ok g c = on_ok c.tell_count.result (λ wrote.
    let before = g.W.Write.contents c.args.output.now in
    let after = g.W.Write.contents c.tell_count.new.output in
    let come = c.in_ok-import.ensures.all (ap (λ made. Ok made) c.in-All.is) in
    whole_talks g.B.Database.seen _ c.args.relation.now.name c.args.rows.now before after c.args.database.now c.import.new.database come wrote) c.tell_count.ensures.told

pub returns-in_ok-tell_row-in-Until-clause-ok : goal.returns-in_ok-tell_row-in-Until-clause-ok
returns-in_ok-tell_row-in-Until-clause-ok g c =
    let before = g.W.Write.contents c.args.output.now in
    let after = g.W.Write.contents c.tell_count-in-Until.new.output in
    let cut = c.in_ok-import.ensures.until c.in-Until.row c.in-Until.committed c.in-Until.reply (ap (λ made. Ok made) c.in-Until.is) in
    cut_talks g.B.Database.seen _ c.args.relation.now.name c.args.rows.now before after c.args.database.now c.import.new.database c.in-Until.committed (told_by c.in-Until.reply) cut c.in_ok-tell_count-in-Until.ensures.told
