use Rattle.std.proofs.Common.{refl, List, ℕ, subst, sym}
use Rattle.catalog.specs.Catalogue.{Catalogue}
use Rattle.catalog.specs.Relation.{catalogue_of}
use Rattle.lines.specs.Plan.{IsPlanOf}
use Rattle.commands.specs.Session.{Plan}
use Rattle.commands.proofs.SessionLemmas.{talks_aside, talks_none}
use Rattle.commands.proofs.session_word.take_plan.Goals as goal

pub returns-in_ok-write_text-in-Ok-clause-ok : goal.returns-in_ok-write_text-in-Ok-clause-ok
returns-in_ok-write_text-in-Ok-clause-ok g c =
    let planned = subst (λ (text : List ℕ). IsPlanOf (catalogue_of c.catalog.result.now) c.args.statement.now text) (sym c.as_str.ensures.value) c.in-Ok.ensures in
    talks_aside g.B.Database.seen (g.W.Write.contents c.args.output.now) (g.W.Write.contents c.write_text.new.output) c.args.database.now c.as_str.result.now c.in_ok-write_text-in-Ok.ensures.written
    (Plan c.args.statement.now c.as_str.result.now (subst (λ (x : Catalogue). IsPlanOf x c.args.statement.now c.as_str.result.now) c.catalog.ensures planned), refl) tt

pub returns-in_ok-tell_unplanned-in-Err-clause-ok : goal.returns-in_ok-tell_unplanned-in-Err-clause-ok
returns-in_ok-tell_unplanned-in-Err-clause-ok g c = talks_none g.B.Database.seen (g.W.Write.contents c.args.output.now) c.args.database.now

pub returns-then-is_empty-clause-ok : goal.returns-then-is_empty-clause-ok
returns-then-is_empty-clause-ok g c = talks_none g.B.Database.seen (g.W.Write.contents c.args.output.now) c.args.database.now
