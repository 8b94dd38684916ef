-- Why the law of commands holds.
use Rattle.catalog.specs.Relation.{catalogue_of}
use Rattle.desk.specs.CatalogueDatabase.{database, fits}
use Rattle.world.proofs.Outcomes.{commands_follow}
use Rattle.world.proofs.laws.commands_follow.Goals as goal

pub returns : goal.returns
returns c =
    let catalogue = catalogue_of c.args.catalog.now in
    commands_follow (database catalogue) (fits catalogue) c.one_client_is_a_run.ensures c.obeyed_unless_refused.ensures c.grows_quiet.ensures c.one_command.ensures c.moves_follow.ensures
