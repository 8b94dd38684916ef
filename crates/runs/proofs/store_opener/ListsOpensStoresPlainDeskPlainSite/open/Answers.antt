use Rattle.std.proofs.Common.{refl, ◌∙◌}
use Rattle.catalog.specs.Relation.{catalogue_of}
use Rattle.store.specs.PlainSite.{kept_of}
use Rattle.wire.proofs.Leaves.{have_all}
use Rattle.databases.proofs.ChainLemmas.{sites_there}
use Rattle.runs.proofs.RunLemmas.{leaves_over}
use Rattle.runs.proofs.store_opener.ListsOpensStoresPlainDeskPlainSite.open.Goals as goal

pub returns-clause-one_each : goal.returns-clause-one_each
returns-clause-one_each c = c.in_ok-sites.ensures ∙ sites_there c.args.chain.now c.first_of.result.now c.first_of.ensures.0 c.first_of.ensures.1

pub returns-clause-leaves : goal.returns-clause-leaves
returns-clause-leaves c = leaves_over _ kept_of c.in_ok-sites.sites.items c.args.chain.now c.first_of.result.now c.first_of.ensures.0 c.first_of.ensures.1 (have_all _ kept_of (catalogue_of c.first_of.result.now) (λ store leaf. refl) c.in_ok-sites.sites.items)
