-- Lemmas on stores in SQLite that are opened for sites in threads.
use Rattle.std.proofs.Common.{List, [], ◌∷◌, sym, subst}
use Rattle.sqlite.specs.Store.{Ghosts}
use Rattle.catalog.specs.Catalogue.{Catalogue}
use Rattle.protocol.specs.Parts.{In}
use Rattle.sqlstore.specs.declared.site.SqlSite.{SqlSite}
use Rattle.sqlstore.specs.Site.{kept_by}
use Rattle.wire.specs.Opening as opening
use Rattle.databases.specs.SqlStores.{AreOfLeaves}
use Rattle.databases.proofs.SqlStoresLemmas.{has_in}

-- stores that have the leaves that their sites know, as those ask that open a database over them
pub sql_have : {M : Type 0} {g : Ghosts M} (is_clean : SqlSite M g → Type 0) (catalogue : Catalogue) (sites : List (SqlSite M g)) → AreOfLeaves catalogue sites → opening.HaveLeaves is_clean (λ (site : SqlSite M g). kept_by g site.leaves.items site.conn) catalogue sites
sql_have is_clean catalogue [] have = tt
sql_have is_clean catalogue (site ∷ sites) have = (λ clean leaf inside. has_in site.leaves.items leaf (subst (In leaf) (sym have.0) inside), sql_have is_clean catalogue sites have.1)
