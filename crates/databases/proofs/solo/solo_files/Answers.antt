use Rattle.std.proofs.Common.{Bool, Err, IfErr, IfOk, IfSome, rules, subst, sym}
use Rattle.lines.specs.Input.{IsOfInput}
use Rattle.databases.specs.declared.catalog_files.ChainFault.TheVariants.{Program}
use Rattle.databases.specs.CatalogFiles.{DoesOver, IsUnopened}
use Rattle.databases.specs.Solo.{RunsScript}
use Rattle.databases.proofs.CatalogFilesLemmas.{did_known, did_script, told_idle, told_stopped}
use Rattle.databases.proofs.solo.solo_files.Goals as goal

pub returns-in_err-chain-clause-opened : goal.returns-in_err-chain-clause-opened
returns-in_err-chain-clause-opened g c =
    let old = g.W.Write.contents c.args.output.now in
    told_stopped g.N.Read.remaining (g.C.Read.remaining c.args.catalog) c.args.input g.R.Read.remaining c.args.catalog_file c.args.next.items old (λ script. RunsScript g.B.Database.seen g.O.Opens.origin c.args.mode c.args.file script old old) c.in_err-chain.field-0.0 _ (search rules) c.in_err-chain.ensures.gives

pub returns-in_err-chain-clause-unread : goal.returns-in_err-chain-clause-unread
returns-in_err-chain-clause-unread g c =
    told_idle g.N.Read.remaining (g.C.Read.remaining c.args.catalog) c.args.input c.args.catalog_file c.args.next.items (g.W.Write.contents c.args.output.now) (λ catalogues. IsUnopened c.args.file) c.in_err-chain.field-0.0 _ (search rules) c.in_err-chain.ensures.gives

pub returns-in-Ok-clause-opened : goal.returns-in-Ok-clause-opened
returns-in-Ok-clause-opened g c =
    let old = g.W.Write.contents c.args.output.now in
    let new = g.W.Write.contents c.solo.new.output in
    subst (λ input. IfSome (g.C.Read.remaining c.args.catalog) (λ bytes. IfOk input (λ reader. IfSome (g.R.Read.remaining reader) (λ script. DoesOver g.N.Read.remaining c.args.catalog_file bytes c.args.next.items old new (RunsScript g.B.Database.seen g.O.Opens.origin c.args.mode c.args.file script old new) c.solo.result)))) (sym c.in-Ok.is)
    (did_script g.N.Read.remaining (g.C.Read.remaining c.args.catalog) (g.R.Read.remaining c.in-Ok.input) c.args.catalog_file c.args.next.items c.in_ok-chain.chain old new (λ script. RunsScript g.B.Database.seen g.O.Opens.origin c.args.mode c.args.file script old new) c.solo.result c.in_ok-chain.ensures.gives c.solo.ensures)

pub returns-clause-unread : goal.returns-clause-unread
returns-clause-unread g c =
    let known = g.C.Read.remaining c.args.catalog in
    let output = g.W.Write.contents c.args.output.now in
    let of : IsOfInput c.args.file c.reading.result = search rules in
    subst (λ input. IfErr input (λ error. IfSome known (λ bytes. DoesOver g.N.Read.remaining {T = Bool} c.args.catalog_file bytes c.args.next.items output output (λ catalogues. IsUnopened c.args.file) (Err (Program c.reading.result))))) (sym c.in-Err.is)
    (did_known g.N.Read.remaining {T = Bool} known c.args.catalog_file c.args.next.items c.in_ok-chain.chain output output (λ catalogues. IsUnopened c.args.file) (Err (Program c.reading.result)) c.in_ok-chain.ensures.gives of)
