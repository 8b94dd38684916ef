-- Why a client's database serves unless something is refused.
use Rattle.catalog.specs.Relation.{catalogue_of}
use Rattle.desk.specs.CatalogueDatabase.{database, fits}
use Rattle.world.proofs.Smoothly.{serves_unless_refused}
use Rattle.world.proofs.laws.served_unless_refused.Goals as goal

pub returns : goal.returns
returns c = serves_unless_refused (database (catalogue_of c.args.catalog.now)) (fits (catalogue_of c.args.catalog.now)) c.language_is_lawful.ensures.of_language c.served_smoothly.ensures
