-- Why `laws::serial_law` meets its contract.
use Rattle.catalog.specs.Relation.{catalogue_of}
use Rattle.protocol.specs.Local.{local}
use Rattle.protocol.proofs.ListLaw.{list_law}
use Rattle.protocol.proofs.SerialLaw.{serial_law}
use Rattle.desk.specs.CatalogueDatabase.{database}
use Rattle.desk.specs.Database.{statements}
use Rattle.world.proofs.laws.serial_law.Goals as goal

pub returns-clause-of_list : goal.returns-clause-of_list
returns-clause-of_list c = list_law local (statements (database (catalogue_of c.args.catalog.now))) c.language_is_lawful.ensures.of_list

pub returns-clause-of_language : goal.returns-clause-of_language
returns-clause-of_language c = serial_law c.language_is_lawful.ensures.of_language
