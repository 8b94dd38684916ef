-- Why the law of what happens and is told holds.
use Rattle.catalog.specs.Relation.{catalogue_of}
use Rattle.desk.specs.CatalogueDatabase.{database}
use Rattle.world.proofs.Account.{moves_follow}
use Rattle.world.proofs.laws.moves_follow.Goals as goal

pub returns : goal.returns
returns c = moves_follow (database (catalogue_of c.args.catalog.now)) c.one_client_is_a_run.ensures c.served_is_serial.ensures
