use Rattle.std.proofs.Common.{◌≡◌, length}
use Rattle.catalog.specs.Relation.{catalogue_of}
use Rattle.databases.specs.SqlStores.{AreNewSites}
use Rattle.databases.proofs.sql_stores.memory_sites.Given as goal

abbrev pub invariant-loop-place : goal.invariant-loop-place
invariant-loop-place l = AreNewSites (catalogue_of l.catalog) l.sites.items × (length l.sites.items ≡ l._place)
