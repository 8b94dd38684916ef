-- Why a client's commands are obeyed unless something is refused.
use Rattle.catalog.specs.Relation.{catalogue_of}
use Rattle.desk.specs.CatalogueDatabase.{database, fits}
use Rattle.world.proofs.Executed.{obeys}
use Rattle.world.proofs.laws.obeyed_unless_refused.Goals as goal

pub returns : goal.returns
returns c =
    let catalogue = catalogue_of c.args.catalog.now in
    obeys (database catalogue) (fits catalogue) c.one_client_is_a_run.ensures c.served_smoothly.ensures c.served_unless_refused.ensures
