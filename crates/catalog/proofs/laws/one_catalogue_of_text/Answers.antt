use Rattle.catalog.proofs.CatalogueTexts.{one_catalogue}
use Rattle.catalog.proofs.laws.one_catalogue_of_text.Goals as goal

pub returns : goal.returns
returns c = one_catalogue c.one_list_of_conds.ensures
