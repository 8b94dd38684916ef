use Rattle.std.proofs.Common.{subst, ◌∙◌}
use Rattle.catalog.specs.Catalogue.{Catalogue}
use Rattle.databases.specs.SqlStores.{AreNewSites}
use Rattle.databases.proofs.ChainLemmas.{first_is, sites_there}
use Rattle.databases.proofs.SqlStoresLemmas.{new_of_leaves}
use Rattle.runs.proofs.StoreOpenerLemmas.{sql_have}
use Rattle.runs.proofs.store_opener.InMemoryOpensStoresSqlDeskMemStoreSqlSiteMemStore.open.Goals as goal

pub returns-clause-one_each : goal.returns-clause-one_each
returns-clause-one_each c = c.in_ok-sites.ensures.all ∙ sites_there c.args.chain.now c.first_of.result.now c.first_of.ensures.0 c.first_of.ensures.1

pub returns-clause-leaves : goal.returns-clause-leaves
returns-clause-leaves c = λ first rest is.
    let sites = c.in_ok-sites.sites.items in
    let here = first_is c.args.chain.now c.first_of.result.now c.first_of.ensures.0 first rest c.first_of.ensures.1 is in
    sql_have _ first sites (new_of_leaves first sites (subst (λ (catalogue : Catalogue). AreNewSites catalogue sites) here c.in_ok-sites.ensures.new))
