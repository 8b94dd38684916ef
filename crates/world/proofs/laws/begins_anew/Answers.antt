-- Why `begins_anew` meets its contract.
use Rattle.catalog.specs.Relation.{catalogue_of}
use Rattle.desk.specs.CatalogueDatabase.{database}
use Rattle.world.proofs.Anew.{anew_law}
use Rattle.world.proofs.laws.begins_anew.Goals as goal

pub returns : goal.returns
returns c = anew_law (database (catalogue_of c.args.catalog.now)) c.one_client_is_a_run.ensures
