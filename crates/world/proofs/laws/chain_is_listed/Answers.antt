-- Why `laws::chain_is_listed` meets its contract.
use Rattle.std.proofs.Common.{subst}
use Rattle.std.specs.List.{AllByRecursion}
use Rattle.catalog.specs.Catalogue.{IsValidCatalogue}
use Rattle.catalog.specs.Formed.{IsFormed}
use Rattle.catalog.specs.Relation.{catalogue_of}
use Rattle.world.proofs.DatabaseIsLawful.{is_base}
use Rattle.world.proofs.ListIsBase.{listed_chain}
use Rattle.world.proofs.ListIsLawful.{lawful_chain}
use Rattle.world.proofs.laws.chain_is_listed.Goals as goal

pub returns : goal.returns
returns c =
    let chain = c.args.chain.now in
    let formed = subst (AllByRecursion (λ catalog. IsFormed (catalogue_of catalog))) c.as_slice-catalogs.ensures.catalogs c.are_formed.ensures.formed in
    let valid = subst (AllByRecursion (λ catalog. IsValidCatalogue (catalogue_of catalog))) c.as_slice-catalogs.ensures.catalogs c.are_formed.ensures.valid in
    listed_chain (λ catalogue formed valid. is_base catalogue formed c.leaf_names_are_unique.ensures c.contents_ascend.ensures valid c.fetches_are_told.ensures.told c.fetches_are_told.ensures.one) chain formed valid c.as_slice-catalogs.ensures.chain
    (lawful_chain c.writes_lead.ensures c.moves_lead.ensures.lead c.moves_lead.ensures.stay c.contents_ascend.ensures chain formed)
