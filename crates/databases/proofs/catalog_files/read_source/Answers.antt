use Rattle.std.proofs.Common.{◌≡◌, Err, IfErr, rules, subst, sym}
use Rattle.databases.specs.CatalogFiles.{IsFaultOf, fault_of_catalogue}
use Rattle.databases.proofs.CatalogFilesLemmas.{opened_fault}
use Rattle.databases.proofs.catalog_files.read_source.Goals as goal

pub returns-in_err-read_catalog-in-Ok-clause-err : goal.returns-in_err-read_catalog-in-Ok-clause-err
returns-in_err-read_catalog-in-Ok-clause-err g c =
    let told : c.from_residual.result ≡ Err (fault_of_catalogue c.in_err-read_catalog-in-Ok.field-0.0) = search rules in
    subst (λ result. IfErr result (IsFaultOf g.C.Read.remaining c.args.source)) (sym told)
    (opened_fault g.C.Read.remaining c.args.source c.in-Ok.catalog c.in_err-read_catalog-in-Ok.field-0.0 c.in-Ok.is c.in_err-read_catalog-in-Ok.ensures.faults)
