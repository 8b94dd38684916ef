use Rattle.std.proofs.Common.{IfErr, IfOk, IfSome, subst, sym}
use Rattle.databases.specs.CatalogFiles.{DoesOver, IsUnopened}
use Rattle.databases.specs.Ending.{ComesTo, outcome_of_end}
use Rattle.commands.specs.Play.{PlaysOver}
use Rattle.databases.specs.Schedule.{world_over}
use Rattle.databases.proofs.EndingLemmas.{came_idle, came_to, on_err, stopped_end}
use Rattle.commands.proofs.perform.perform_play.Goals as goal

pub returns-in-Ok-clause-played : goal.returns-in-Ok-clause-played
returns-in-Ok-clause-played g c =
    let old = g.W.Write.contents c.args.output.now in
    let new = g.W.Write.contents c.play_files.new.output in
    subst (λ catalog. IfOk catalog (λ opened. IfSome (g.C.Read.remaining opened) (λ bytes. IfOk c.args.input (λ reader. IfSome (g.R.Read.remaining reader) (λ text. ComesTo outcome_of_end (DoesOver g.N.Read.remaining c.args.file bytes c.args.next.items old new (PlaysOver (world_over g.D.DeskStore.is_clean g.S.SiteStore.is_clean g.D.DeskStore.is_sound g.S.SiteStore.is_sound g.D.DeskStore.kept g.S.SiteStore.kept g.D.DeskStore.refused g.S.SiteStore.refused) g.P.OpensWorld.fails_for c.args.script text old new)) c.of_end.result))))) (sym c.in-Ok.is)
    (came_to (g.C.Read.remaining c.in-Ok.catalog) c.args.input g.R.Read.remaining outcome_of_end (λ bytes text. DoesOver g.N.Read.remaining c.args.file bytes c.args.next.items old new (PlaysOver (world_over g.D.DeskStore.is_clean g.S.SiteStore.is_clean g.D.DeskStore.is_sound g.S.SiteStore.is_sound g.D.DeskStore.kept g.S.SiteStore.kept g.D.DeskStore.refused g.S.SiteStore.refused) g.P.OpensWorld.fails_for c.args.script text old new)) c.play_files.result c.of_end.result c.of_end.ensures c.play_files.ensures.opened)

pub returns-in-Ok-clause-idle : goal.returns-in-Ok-clause-idle
returns-in-Ok-clause-idle g c =
    let old = g.W.Write.contents c.args.output.now in
    let new = g.W.Write.contents c.play_files.new.output in
    subst (λ catalog. IfOk catalog (λ opened. IfSome (g.C.Read.remaining opened) (λ bytes. IfErr c.args.input (λ error. ComesTo outcome_of_end (DoesOver g.N.Read.remaining c.args.file bytes c.args.next.items old new (λ catalogues. IsUnopened c.args.script)) c.of_end.result)))) (sym c.in-Ok.is)
    (came_idle (g.C.Read.remaining c.in-Ok.catalog) c.args.input outcome_of_end (λ bytes. DoesOver g.N.Read.remaining c.args.file bytes c.args.next.items old new (λ catalogues. IsUnopened c.args.script)) c.play_files.result c.of_end.result c.of_end.ensures c.play_files.ensures.unread)

pub returns-in-Ok-clause-unread : goal.returns-in-Ok-clause-unread
returns-in-Ok-clause-unread g c = on_err _ _ _ c.args.input (stopped_end c.args.next.items c.play_files.result c.of_end.result c.of_end.ensures) c.play_files.ensures.idle
