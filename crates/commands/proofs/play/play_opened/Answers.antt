use Rattle.std.proofs.Common.{IfOk, IfSome, subst, sym}
use Rattle.commands.specs.Play.{PlaysScript}
use Rattle.databases.specs.Schedule.{world_over}
use Rattle.commands.proofs.play.play_opened.Goals as goal

pub returns-in-Ok-clause-opened : goal.returns-in-Ok-clause-opened
returns-in-Ok-clause-opened g c = λ first rest is.
    let seen = world_over g.D.DeskStore.is_clean g.S.SiteStore.is_clean g.D.DeskStore.is_sound g.S.SiteStore.is_sound g.D.DeskStore.kept g.S.SiteStore.kept g.D.DeskStore.refused g.S.SiteStore.refused in
    let old = g.W.Write.contents c.args.output.now in
    let new = g.W.Write.contents c.play.new.output in
    subst (λ input. IfOk input (λ reader. IfSome (g.R.Read.remaining reader) (λ script. PlaysScript seen g.O.OpensWorld.fails_for first rest c.args.file script old new c.play.result))) (sym c.in-Ok.is) (c.play.ensures first rest is)
