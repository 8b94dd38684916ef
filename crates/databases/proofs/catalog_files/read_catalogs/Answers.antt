use Rattle.std.proofs.Common.{◌≡◌, Err, IfErr, rules, subst, sym}
use Rattle.catalog.specs.Relation.{catalogue_of}
use Rattle.databases.specs.CatalogFiles.{IsOfCatalogues, fault_of_catalogue}
use Rattle.databases.proofs.CatalogFilesLemmas.{of_first, told_next}
use Rattle.databases.proofs.catalog_files.read_catalogs.Goals as goal

pub returns-in_err-first-clause-faults : goal.returns-in_err-first-clause-faults
returns-in_err-first-clause-faults g c =
    let told : c.from_residual.result ≡ Err (fault_of_catalogue c.in_err-first.field-0.0) = search rules in
    subst (λ result. IfErr result (IsOfCatalogues c.args.next.items)) (sym told) (of_first c.args.next.items c.in_err-first.field-0.0)

pub returns-clause-faults : goal.returns-clause-faults
returns-clause-faults g c = told_next g.N.Read.remaining (catalogue_of c.in_ok-first.first) c.args.next.items c.read_chain.result c.read_chain.ensures
