use Rattle.catalog.specs.Relation.{catalogue_of}
use Rattle.catalog.proofs.FormedCatalogues.{named}
use Rattle.catalog.proofs.catalogue.Catalog.schema.Goals as goal

pub returns-clause-named : goal.returns-clause-named
returns-clause-named c = named (catalogue_of (c.self.inside.sites.items, c.self.inside.relations.items)) c.self.inside.schema.relations c.self.invariant.schemas c.self.invariant.formed
