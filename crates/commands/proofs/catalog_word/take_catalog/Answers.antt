use Rattle.std.proofs.Common.{ℕ, List, length, map, subst, sym, ◌∙◌}
use Rattle.std.specs.Io.KnownBytes.{Appends}
use Rattle.std.proofs.lemmas.List.{length-map}
use Rattle.commands.specs.Session.{InForce}
use Rattle.commands.proofs.CatalogWordLemmas.{in_force_is}
use Rattle.commands.proofs.SessionLemmas.{talks_aside}
use Rattle.commands.proofs.catalog_word.take_catalog.Goals as goal

pub returns-clause-ok : goal.returns-clause-ok
returns-clause-ok g c =
    talks_aside g.B.Database.seen (g.W.Write.contents c.args.output.now) (g.W.Write.contents c.write_text.new.output) c.args.database.now c.as_str.result.now c.in_ok-write_text.ensures.written (InForce c.version-number.result (length c.args.names.now) c.name_at-name.result.now, c.as_str.ensures.value ∙ c.in_ok-text.ensures) c.version-number.ensures

pub returns-clause-told : goal.returns-clause-told
returns-clause-told g c =
    let names = map (λ name. name.now) c.args.names.now in
    let counted = sym (length-map c.args.names.now (λ name. name.now)) in
    let text = c.as_str.ensures.value ∙ c.in_ok-text.ensures ∙ in_force_is names (g.B.Database.seen.version c.args.database.now) c.version-number.result (length c.args.names.now) c.name_at-name.result.now c.version-number.ensures counted c.name_at-name.ensures in
    subst (λ (text : List ℕ). Appends (g.W.Write.contents c.args.output.now) (g.W.Write.contents c.write_text.new.output) text) text c.in_ok-write_text.ensures.written
