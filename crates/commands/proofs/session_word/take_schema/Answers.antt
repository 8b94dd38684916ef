use Rattle.std.proofs.Common.{ap, ◌∙◌}
use Rattle.catalog.specs.Catalogue.{Catalogue}
use Rattle.lines.specs.Listing.{schema_text}
use Rattle.commands.specs.Session.{Schema}
use Rattle.commands.proofs.SessionLemmas.{talks_aside}
use Rattle.commands.proofs.session_word.take_schema.Goals as goal

pub returns-clause-ok : goal.returns-clause-ok
returns-clause-ok g c =
    talks_aside g.B.Database.seen (g.W.Write.contents c.args.output.now) (g.W.Write.contents c.write_text.new.output) c.args.database.now c.as_str.result.now c.in_ok-write_text.ensures.written (Schema c.args.asked.now, c.as_str.ensures.value ∙ c.in_ok-text.ensures ∙ ap (λ (over : Catalogue). schema_text over c.args.asked.now) c.catalog.ensures) tt
