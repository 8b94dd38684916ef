-- Why `machines_come_up` meets its contract.
use Rattle.catalog.specs.Relation.{catalogue_of}
use Rattle.desk.specs.CatalogueDatabase.{database}
use Rattle.world.proofs.Waking.{coming_up_law}
use Rattle.world.proofs.laws.machines_come_up.Goals as goal

pub returns : goal.returns
returns c = coming_up_law (database (catalogue_of c.args.catalog.now)) c.one_client_is_a_run.ensures c.relations.ensures.formed.distinct
