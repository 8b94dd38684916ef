-- Why `World::parts` meets its contract.
use Rattle.catalog.specs.Relation.{catalogue_of}
use Rattle.world.specs.Contents.{held}
use Rattle.world.proofs.Fragments.{sites_of_list}
use Rattle.world.proofs.world.World.parts.Goals as goal

pub returns-clause-parts : goal.returns-clause-parts
returns-clause-parts g c = λ db listed stands clean sound fit.
    let catalogue = catalogue_of c.args.self.now.machines.desk.catalog in
    let before = held g.D.DeskStore.kept g.S.SiteStore.kept c.args.self.now.machines in
    c.kept_parts.ensures.parts db stands.here clean sound (sites_of_list db catalogue before listed.base.of_catalogue stands.here fit)

pub returns-clause-fails : goal.returns-clause-fails
returns-clause-fails g c = λ db listed stands clean sound fit.
    let catalogue = catalogue_of c.args.self.now.machines.desk.catalog in
    let before = held g.D.DeskStore.kept g.S.SiteStore.kept c.args.self.now.machines in
    c.kept_parts.ensures.fails clean sound (sites_of_list db catalogue before listed.base.of_catalogue stands.here fit)
