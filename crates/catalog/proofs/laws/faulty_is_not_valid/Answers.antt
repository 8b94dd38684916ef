use Rattle.catalog.proofs.CatalogueTexts.{faulty_is_not_valid}
use Rattle.catalog.proofs.laws.faulty_is_not_valid.Goals as goal

pub returns : goal.returns
returns c = faulty_is_not_valid
