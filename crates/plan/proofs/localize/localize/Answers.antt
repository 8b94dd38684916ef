-- Why `localize::localize` meets its contract.
use Rattle.catalog.specs.Relation.{catalogue_of}
use Rattle.plan.proofs.Planned.{planned}
use Rattle.plan.proofs.localize.localize.Goals as goal

pub returns : goal.returns
returns c =
    planned c.located.result (catalogue_of c.args.catalog.now) c.args.statement.now c.some_leaf_serves.ensures.whole c.one_leaf_serves.ensures.whole c.leaf_names_are_unique.ensures c.relations-relations.ensures.formed c.relations-relations.ensures.valid
    c.located.ensures
