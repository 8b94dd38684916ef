-- Why `kept_parts` meets its contract.
use Rattle.std.proofs.Common.{subst, option_map}
use Rattle.catalog.specs.Formed.{IsFormed}
use Rattle.catalog.specs.Relation.{catalogue_of}
use Rattle.world.specs.Contents.{held}
use Rattle.world.proofs.SiteSteps.{if_ok}
use Rattle.world.proofs.Rebuilt.{kept_is}
use Rattle.world.proofs.rebuild.kept_parts.Goals as goal

pub returns-clause-parts : goal.returns-clause-parts
returns-clause-parts g c = λ db in_force clean sound fit.
    let catalogue = catalogue_of c.args.machines.now.desk.catalog in
    let formed = subst (λ x. IsFormed (catalogue_of x)) c.catalog.ensures c.relations-relations.ensures.formed in
    let before = held g.D.DeskStore.kept g.S.SiteStore.kept c.args.machines.now in
    if_ok c.settled_parts.result (λ found is. kept_is catalogue formed db before c.args.leaf.now (option_map (λ parts. parts.items) found) in_force fit is) (c.settled_parts.ensures.parts clean sound fit.seated)
