use Rattle.std.proofs.Common.{IfErr, IfOk, IfSome, subst, sym}
use Rattle.databases.specs.CatalogFiles.{DoesOver, IsUnopened}
use Rattle.databases.specs.Ending.{ComesTo, outcome_of_script}
use Rattle.databases.specs.Solo.{RunsScript}
use Rattle.databases.proofs.EndingLemmas.{came_idle, came_to, on_err, stopped_script}
use Rattle.commands.proofs.perform.perform_solo.Goals as goal

pub returns-in-Ok-clause-ran : goal.returns-in-Ok-clause-ran
returns-in-Ok-clause-ran g c =
    let old = g.W.Write.contents c.args.output.now in
    let new = g.W.Write.contents c.solo_files.new.output in
    subst (λ catalog. IfOk catalog (λ opened. IfSome (g.C.Read.remaining opened) (λ bytes. IfOk c.args.input (λ reader. IfSome (g.R.Read.remaining reader) (λ text. ComesTo outcome_of_script (DoesOver g.N.Read.remaining c.args.file bytes c.args.next.items old new (RunsScript g.B.Database.seen g.O.Opens.origin c.args.mode c.args.script text old new)) c.of_script.result))))) (sym c.in-Ok.is)
    (came_to (g.C.Read.remaining c.in-Ok.catalog) c.args.input g.R.Read.remaining outcome_of_script (λ bytes text. DoesOver g.N.Read.remaining c.args.file bytes c.args.next.items old new (RunsScript g.B.Database.seen g.O.Opens.origin c.args.mode c.args.script text old new)) c.solo_files.result c.of_script.result c.of_script.ensures c.solo_files.ensures.opened)

pub returns-in-Ok-clause-idle : goal.returns-in-Ok-clause-idle
returns-in-Ok-clause-idle g c =
    let old = g.W.Write.contents c.args.output.now in
    let new = g.W.Write.contents c.solo_files.new.output in
    subst (λ catalog. IfOk catalog (λ opened. IfSome (g.C.Read.remaining opened) (λ bytes. IfErr c.args.input (λ error. ComesTo outcome_of_script (DoesOver g.N.Read.remaining c.args.file bytes c.args.next.items old new (λ catalogues. IsUnopened c.args.script)) c.of_script.result)))) (sym c.in-Ok.is)
    (came_idle (g.C.Read.remaining c.in-Ok.catalog) c.args.input outcome_of_script (λ bytes. DoesOver g.N.Read.remaining c.args.file bytes c.args.next.items old new (λ catalogues. IsUnopened c.args.script)) c.solo_files.result c.of_script.result c.of_script.ensures c.solo_files.ensures.unread)

pub returns-in-Ok-clause-unread : goal.returns-in-Ok-clause-unread
returns-in-Ok-clause-unread g c = on_err _ _ _ c.args.input (stopped_script c.args.next.items c.solo_files.result c.of_script.result c.of_script.ensures) c.solo_files.ensures.idle
