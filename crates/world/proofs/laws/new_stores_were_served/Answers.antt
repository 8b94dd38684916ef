-- Why `new_stores_were_served` meets its contract.
use Rattle.catalog.specs.Relation.{catalogue_of}
use Rattle.world.proofs.Unborn.{new_stores_law}
use Rattle.world.proofs.laws.new_stores_were_served.Goals as goal

pub returns : goal.returns
returns c = new_stores_law (catalogue_of c.args.catalog.now) c.relations.ensures.formed
