use Rattle.std.proofs.Common.{IfSome, List, ℕ, subst}
use Rattle.catalog.specs.Relation.{catalogue_of}
use Rattle.lines.specs.CatalogFile.{IsFaultOf, IsNoText, IsTextOf, fault_of_refusal}
use Rattle.lines.proofs.CatalogFileLemmas.{catalogue_file, err_is, no_text, refused_text}
use Rattle.lines.proofs.catalog_file.read_catalog.Goals as goal

pub returns-in_err-text-clause-faults : goal.returns-in_err-text-clause-faults
returns-in_err-text-clause-faults g c =
    let fault = c.in_err-text.field-0.0 in
    let P : List ℕ → Type 0 = λ bytes. IsNoText bytes fault.rule in
    err_is c.from_residual-in_err-text.result (λ fault. IfSome (g.R.Read.remaining c.args.input) (λ bytes. IsFaultOf c.args.file bytes fault)) (fault_of_refusal fault) c.from_residual-in_err-text.ensures.1
    (no_text c.args.file (g.R.Read.remaining c.args.input) c.in_ok-bytes.bytes.items fault c.in_ok-bytes.ensures.front (subst P c.as_slice.ensures.value c.in_err-text.ensures.none))

pub returns-in_err-read-clause-faults : goal.returns-in_err-read-clause-faults
returns-in_err-read-clause-faults g c =
    let fault = c.in_err-read.field-0.0 in
    let P : List ℕ → Type 0 = λ bytes. IsTextOf bytes c.in_ok-text.text.now in
    err_is c.from_residual-in_err-read.result (λ fault. IfSome (g.R.Read.remaining c.args.input) (λ bytes. IsFaultOf c.args.file bytes fault)) (fault_of_refusal fault) c.from_residual-in_err-read.ensures.1
    (refused_text c.args.file (g.R.Read.remaining c.args.input) c.in_ok-bytes.bytes.items c.in_ok-text.text.now fault c.in_ok-bytes.ensures.front (subst P c.as_slice.ensures.value c.in_ok-text.ensures.text) c.in_err-read.ensures.none c.in_err-read.ensures.breaks)

pub returns-clause-found : goal.returns-clause-found
returns-clause-found g c =
    let P : List ℕ → Type 0 = λ bytes. IsTextOf bytes c.in_ok-text.text.now in
    catalogue_file (g.R.Read.remaining c.args.input) c.in_ok-bytes.bytes.items c.in_ok-text.text.now (catalogue_of c.in_ok-read.field-0) c.in_ok-bytes.ensures.front
    (subst P c.as_slice.ensures.value c.in_ok-text.ensures.text) c.in_ok-read.ensures.found
