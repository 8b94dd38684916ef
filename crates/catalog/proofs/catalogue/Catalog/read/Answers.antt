use Rattle.std.proofs.Common.{◌≡◌, true}
use Rattle.std.proofs.lemmas.Result.{IfErr-weaker}
use Rattle.toml.specs.View.{view}
use Rattle.catalog.specs.Document.{RefusesRoot, RefusesText, TellsRoot, TellsText}
use Rattle.catalog.specs.Breaks.{CatalogueTextBreaks, DocumentBreaks}
use Rattle.catalog.specs.Refuses.{is_of_text}
use Rattle.catalog.proofs.TextBreaks.{text_breaks}
use Rattle.catalog.proofs.Told.{tells_text}
use Rattle.catalog.proofs.CatalogueTexts.{refuses_root}
use Rattle.catalog.proofs.catalogue.Catalog.read.Goals as goal

pub returns-in-Ok-clause-none : goal.returns-in-Ok-clause-none
returns-in-Ok-clause-none c =
    IfErr-weaker c.catalog_of.result (λ fault. RefusesRoot (view c.in-Ok.root) fault.relation fault.rule) (λ fault. RefusesText c.args.text.now fault.relation fault.rule)
    (λ fault refuses. refuses_root c.args.text.now (view c.in-Ok.root) fault.relation fault.rule c.in-Ok.ensures.found refuses) c.catalog_of.ensures.none

pub returns-in-Ok-clause-told : goal.returns-in-Ok-clause-told
returns-in-Ok-clause-told c =
    IfErr-weaker c.catalog_of.result (λ fault. TellsRoot (view c.in-Ok.root) fault.relation fault.rule) (λ fault. TellsText c.args.text.now fault.relation fault.rule)
    (λ fault tells. tells_text c.args.text.now (view c.in-Ok.root) fault.relation fault.rule c.in-Ok.ensures.found tells) c.catalog_of.ensures.told

pub returns-in-Ok-clause-breaks : goal.returns-in-Ok-clause-breaks
returns-in-Ok-clause-breaks c =
    IfErr-weaker c.catalog_of.result (λ fault. is_of_text fault.rule ≡ true → DocumentBreaks fault.rule (view c.in-Ok.root)) (λ fault. is_of_text fault.rule ≡ true → CatalogueTextBreaks fault.rule c.args.text.now)
    (λ fault broken of_text. text_breaks c.args.text.now (view c.in-Ok.root) fault.rule c.in-Ok.ensures.found c.in-Ok.ensures.table (broken of_text)) c.catalog_of.ensures.breaks
