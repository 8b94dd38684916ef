-- Why `Solo::parts` meets its contract.
use Rattle.std.proofs.Common.{refl}
use Rattle.catalog.specs.Relation.{catalogue_of}
use Rattle.desk.specs.CatalogueDatabase.{database}
use Rattle.world.specs.Contents.{held}
use Rattle.world.specs.Counted.{counts}
use Rattle.world.proofs.Counting.{fit_uncounted}
use Rattle.world.proofs.Fragments.{sites_of_fit}
use Rattle.world.proofs.Fragments.{sites_of_list}
use Rattle.world.proofs.ListSolo.{fits_without}
use Rattle.world.proofs.solo.Solo.parts.Goals as goal

pub returns-clause-parts : goal.returns-clause-parts
returns-clause-parts g c = λ clean sound fit.
    let catalogue = catalogue_of c.args.self.now.machines.desk.catalog in
    let before = held g.D.DeskStore.kept g.S.SiteStore.kept c.args.self.now.machines in
    let count = counts g.D.DeskStore.refused g.S.SiteStore.refused c.args.self.now.machines in
    c.kept_parts.ensures.parts (database catalogue) refl clean sound (sites_of_fit catalogue before (fit_uncounted (database catalogue) before count fit))

pub returns-clause-fails : goal.returns-clause-fails
returns-clause-fails g c = λ clean sound fit.
    let catalogue = catalogue_of c.args.self.now.machines.desk.catalog in
    let before = held g.D.DeskStore.kept g.S.SiteStore.kept c.args.self.now.machines in
    let count = counts g.D.DeskStore.refused g.S.SiteStore.refused c.args.self.now.machines in
    c.kept_parts.ensures.fails clean sound (sites_of_fit catalogue before (fit_uncounted (database catalogue) before count fit))

pub returns-clause-lists : goal.returns-clause-lists
returns-clause-lists g c = λ db listed stands clean sound fit.
    let catalogue = catalogue_of c.args.self.now.machines.desk.catalog in
    let before = held g.D.DeskStore.kept g.S.SiteStore.kept c.args.self.now.machines in
    let sites = sites_of_list db catalogue before listed.base.of_catalogue stands.here (fits_without db before (counts g.D.DeskStore.refused g.S.SiteStore.refused c.args.self.now.machines) fit) in
    (c.kept_parts.ensures.parts db stands.here clean sound sites, c.kept_parts.ensures.fails clean sound sites)
