use Rattle.catalog.specs.Relation.{catalogue_of}
use Rattle.catalog.proofs.FormedCatalogues.{sited}
use Rattle.catalog.proofs.catalogue.Catalog.leaves.Goals as goal

pub returns-clause-sited : goal.returns-clause-sited
returns-clause-sited c =
    let here = c.self.inside in
    rw (← c.self.view_is, c.as_slice.ensures.value) (sited (catalogue_of (here.sites.items, here.relations.items)) here.leaves.items c.self.invariant.listed c.self.invariant.formed)
