use Rattle.std.proofs.Common.{IfErr, IfOk, IfSome, subst, sym}
use Rattle.databases.specs.CatalogFiles.{DoesOver, IsUnopened}
use Rattle.databases.specs.Ending.{ComesTo}
use Rattle.runs.specs.Run.{RunsScript, outcome_of}
use Rattle.databases.proofs.EndingLemmas.{came_idle, came_to}
use Rattle.runs.proofs.run.run_files.Goals as goal

pub returns-in-Ok-clause-ran : goal.returns-in-Ok-clause-ran
returns-in-Ok-clause-ran g c =
    let old = g.W.Write.contents c.args.output.now in
    let new = g.W.Write.contents c.run_read.new.output in
    subst (λ catalog. IfOk catalog (λ opened. IfSome (g.C.Read.remaining opened) (λ bytes. IfOk c.args.input (λ reader. IfSome (g.R.Read.remaining reader) (λ script. ComesTo outcome_of (DoesOver g.N.Read.remaining c.args.catalog_file bytes c.args.next.items old new (RunsScript g.D.DeskStore.is_clean g.D.DeskStore.is_sound g.D.DeskStore.kept g.S.SiteStore.is_clean g.S.SiteStore.is_sound g.S.SiteStore.kept c.args.file script old new)) c.outcome_of.result))))) (sym c.in-Ok.is)
    (came_to (g.C.Read.remaining c.in-Ok.catalog) c.args.input g.R.Read.remaining outcome_of (λ bytes script. DoesOver g.N.Read.remaining c.args.catalog_file bytes c.args.next.items old new (RunsScript g.D.DeskStore.is_clean g.D.DeskStore.is_sound g.D.DeskStore.kept g.S.SiteStore.is_clean g.S.SiteStore.is_sound g.S.SiteStore.kept c.args.file script old new)) c.run_read.result c.outcome_of.result c.outcome_of.ensures c.run_read.ensures.opened)

pub returns-in-Ok-clause-idle : goal.returns-in-Ok-clause-idle
returns-in-Ok-clause-idle g c =
    let old = g.W.Write.contents c.args.output.now in
    let new = g.W.Write.contents c.run_read.new.output in
    subst (λ catalog. IfOk catalog (λ opened. IfSome (g.C.Read.remaining opened) (λ bytes. IfErr c.args.input (λ error. ComesTo outcome_of (DoesOver g.N.Read.remaining c.args.catalog_file bytes c.args.next.items old new (λ catalogues. IsUnopened c.args.file)) c.outcome_of.result)))) (sym c.in-Ok.is)
    (came_idle (g.C.Read.remaining c.in-Ok.catalog) c.args.input outcome_of (λ bytes. DoesOver g.N.Read.remaining c.args.catalog_file bytes c.args.next.items old new (λ catalogues. IsUnopened c.args.file)) c.run_read.result c.outcome_of.result c.outcome_of.ensures c.run_read.ensures.unread)
