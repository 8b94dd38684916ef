-- Why `laws::language_is_lawful` meets its contract.
use Rattle.catalog.specs.Relation.{catalogue_of}
use Rattle.protocol.specs.Local.{local}
use Rattle.protocol.proofs.ListLaw.{list_lawful}
use Rattle.desk.specs.CatalogueDatabase.{database}
use Rattle.desk.specs.Database.{statements}
use Rattle.world.proofs.DatabaseIsLawful.{lawful_list}
use Rattle.world.proofs.laws.language_is_lawful.Goals as goal

pub returns-clause-of_list : goal.returns-clause-of_list
returns-clause-of_list c = lawful_list (catalogue_of c.args.catalog.now) c.relations.ensures.formed c.contents_ascend.ensures c.writes_lead.ensures

pub returns-clause-of_language : goal.returns-clause-of_language
returns-clause-of_language c = list_lawful local (statements (database (catalogue_of c.args.catalog.now))) (lawful_list (catalogue_of c.args.catalog.now) c.relations.ensures.formed c.contents_ascend.ensures c.writes_lead.ensures)
