use Rattle.std.proofs.Common.{ap, refl, ◌∙◌}
use Rattle.lines.specs.Listing.{tables_text}
use Rattle.commands.specs.Session.{Cost, Help, Tables, help_text}
use Rattle.commands.proofs.SessionLemmas.{talks_aside, talks_none}
use Rattle.commands.proofs.session_word.take_lone.Goals as goal

pub returns-in-Quit-clause-ok : goal.returns-in-Quit-clause-ok
returns-in-Quit-clause-ok g c = talks_none g.B.Database.seen (g.W.Write.contents c.args.output.now) c.args.database.now

pub returns-in_ok-write_text-in-Tables-clause-ok : goal.returns-in_ok-write_text-in-Tables-clause-ok
returns-in_ok-write_text-in-Tables-clause-ok g c =
    talks_aside g.B.Database.seen (g.W.Write.contents c.args.output.now) (g.W.Write.contents c.write_text.new.output) c.args.database.now c.as_str.result.now c.in_ok-write_text-in-Tables.ensures.written (Tables, c.as_str.ensures.value ∙ c.in_ok-text-in-Tables.ensures ∙ ap tables_text c.catalog.ensures) tt

pub returns-in_ok-write_text-in_default-clause-ok : goal.returns-in_ok-write_text-in_default-clause-ok
returns-in_ok-write_text-in_default-clause-ok g c = talks_aside g.B.Database.seen (g.W.Write.contents c.args.output.now) (g.W.Write.contents c.write_text-in_default.new.output) c.args.database.now help_text c.in_ok-write_text-in_default.ensures.written (Help, refl) tt

pub returns-then-not-is_empty-clause-ok : goal.returns-then-not-is_empty-clause-ok
returns-then-not-is_empty-clause-ok g c = talks_none g.B.Database.seen (g.W.Write.contents c.args.output.now) c.args.database.now

pub returns-in_ok-write_text-in-Stats-clause-ok : goal.returns-in_ok-write_text-in-Stats-clause-ok
returns-in_ok-write_text-in-Stats-clause-ok g c =
    talks_aside g.B.Database.seen (g.W.Write.contents c.args.output.now) (g.W.Write.contents c.write_text-in-Stats.new.output) c.args.database.now c.as_str-in-Stats.result.now c.in_ok-write_text-in-Stats.ensures.written (Cost c.args.state.now.stats c.traffic.result, c.as_str-in-Stats.ensures.value ∙ c.in_ok-text-in-Stats.ensures) tt
