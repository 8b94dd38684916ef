-- Why `stores` meets its contract: stores in memory have every leaf.
use Rattle.std.proofs.Common.{◌∙◌, refl}
use Rattle.catalog.specs.Relation.{catalogue_of}
use Rattle.store.specs.PlainSite.{kept_of}
use Rattle.wire.proofs.Leaves.{have_all}
use Rattle.thread_tests.proofs.Openings.{if_ok, leaves_over, sites_there}
use Rattle.thread_tests.proofs.site_stores.PlainOpensSitesPlainSite.stores.Goals as goal

pub returns-clause-one_each : goal.returns-clause-one_each
returns-clause-one_each c = if_ok c.plain_sites.result (λ sites same. same ∙ sites_there c.args.chain.now c.first_of.result.now c.first_of.ensures.0 c.first_of.ensures.1) c.plain_sites.ensures

pub returns-clause-leaves : goal.returns-clause-leaves
returns-clause-leaves c = if_ok c.plain_sites.result (λ sites same. leaves_over c.args.chain.now c.first_of.result.now c.first_of.ensures.0 c.first_of.ensures.1 _ kept_of sites.items (have_all _ kept_of (catalogue_of c.first_of.result.now) (λ store leaf. refl) sites.items)) c.plain_sites.ensures
