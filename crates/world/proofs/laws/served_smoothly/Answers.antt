-- Why the law of letters that come smoothly holds of each catalogue.
use Rattle.std.proofs.Common.{ℕ}
use Rattle.catalog.specs.Relation.{catalogue_of}
use Rattle.desk.specs.CatalogueDatabase.{database, fits}
use Rattle.world.proofs.DatabaseIsHoused.{housed}
use Rattle.world.proofs.DatabaseSites.{sites_once}
use Rattle.world.proofs.Smoothly.{serves_smoothly}
use Rattle.world.proofs.laws.served_smoothly.Goals as goal

pub returns : goal.returns
returns c =
    let catalogue = catalogue_of c.args.catalog.now in
    let formed = c.relations.ensures.formed in
    serves_smoothly (database catalogue) (fits catalogue) c.language_is_lawful.ensures.of_language (sites_once catalogue formed) (λ (n : ℕ). housed catalogue formed c.leaf_names_are_unique.ensures c.contents_ascend.ensures n)
