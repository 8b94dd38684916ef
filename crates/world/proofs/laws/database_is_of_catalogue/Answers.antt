-- Why `laws::database_is_of_catalogue` meets its contract.
use Rattle.catalog.specs.Relation.{catalogue_of}
use Rattle.world.proofs.DatabaseIsLawful.{is_base}
use Rattle.world.proofs.laws.database_is_of_catalogue.Goals as goal

pub returns : goal.returns
returns c = is_base (catalogue_of c.args.catalog.now) c.relations.ensures.formed c.leaf_names_are_unique.ensures c.contents_ascend.ensures c.relations.ensures.valid c.fetches_are_told.ensures.told c.fetches_are_told.ensures.one
