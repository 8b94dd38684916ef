use Rattle.std.proofs.Common.{[], ◌∷◌, not, refl}
use Rattle.commands.specs.Session.{LineEnd, Prompt}
use Rattle.commands.proofs.SessionLemmas.{talks_aside, talks_then}
use Rattle.commands.proofs.session.take_turn.Goals as goal

pub returns-after-eq-clause-ok : goal.returns-after-eq-clause-ok
returns-after-eq-clause-ok g c =
    let asked = talks_aside g.B.Database.seen (g.W.Write.contents c.args.output.now) (g.W.Write.contents c.write_text.new.output) c.args.database.now c.prompt.result.now c.in_ok-write_text.ensures.written (Prompt (not c.is_empty.result) c.is_open.result, c.prompt.ensures) tt in
    talks_then g.B.Database.seen (g.W.Write.contents c.args.output.now) (g.W.Write.contents c.write_text.new.output) (g.W.Write.contents c.take_bytes.new.output) c.args.database.now c.args.database.now c.take_bytes.new.database asked c.in_ok-turn-in-Line.ensures.ok

pub returns-in_ok-write_text-in-Dropped-clause-ok : goal.returns-in_ok-write_text-in-Dropped-clause-ok
returns-in_ok-write_text-in-Dropped-clause-ok g c =
    let asked = talks_aside g.B.Database.seen (g.W.Write.contents c.args.output.now) (g.W.Write.contents c.write_text.new.output) c.args.database.now c.prompt.result.now c.in_ok-write_text.ensures.written (Prompt (not c.is_empty.result) c.is_open.result, c.prompt.ensures) tt in
    let ended = talks_aside g.B.Database.seen (g.W.Write.contents c.write_text.new.output) (g.W.Write.contents c.write_text-in-Dropped.new.output) c.args.database.now (10 ∷ []) c.in_ok-write_text-in-Dropped.ensures.written (LineEnd, refl) tt in
    talks_then g.B.Database.seen (g.W.Write.contents c.args.output.now) (g.W.Write.contents c.write_text.new.output) (g.W.Write.contents c.write_text-in-Dropped.new.output) c.args.database.now c.args.database.now c.args.database.now asked ended

pub returns-in_ok-write_text-in-End-clause-ok : goal.returns-in_ok-write_text-in-End-clause-ok
returns-in_ok-write_text-in-End-clause-ok g c =
    let asked = talks_aside g.B.Database.seen (g.W.Write.contents c.args.output.now) (g.W.Write.contents c.write_text.new.output) c.args.database.now c.prompt.result.now c.in_ok-write_text.ensures.written (Prompt (not c.is_empty.result) c.is_open.result, c.prompt.ensures) tt in
    let ended = talks_aside g.B.Database.seen (g.W.Write.contents c.write_text.new.output) (g.W.Write.contents c.write_text-in-End.new.output) c.args.database.now (10 ∷ []) c.in_ok-write_text-in-End.ensures.written (LineEnd, refl) tt in
    talks_then g.B.Database.seen (g.W.Write.contents c.args.output.now) (g.W.Write.contents c.write_text.new.output) (g.W.Write.contents c.write_text-in-End.new.output) c.args.database.now c.args.database.now c.args.database.now asked ended
