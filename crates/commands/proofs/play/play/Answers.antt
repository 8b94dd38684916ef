use Rattle.std.proofs.Common.{List, ℕ, subst}
use Rattle.commands.specs.Play.{IsPlayed, PlaysOrStops}
use Rattle.databases.specs.Schedule.{world_over}
use Rattle.commands.proofs.PlayLemmas.{played_of}
use Rattle.commands.proofs.play.play.Goals as goal

pub returns : goal.returns
returns g c = λ first rest is.
    let seen = world_over g.D.DeskStore.is_clean g.S.SiteStore.is_clean g.D.DeskStore.is_sound g.S.SiteStore.is_sound g.D.DeskStore.kept g.S.SiteStore.kept g.D.DeskStore.refused g.S.SiteStore.refused in
    let old = g.W.Write.contents c.args.output.now in
    let new = g.W.Write.contents c.play_script.new.output in
    played_of g.O.OpensWorld.fails_for (g.R.Read.remaining c.args.input) first c.args.file c.in_ok-script.script.items old new (λ text. IsPlayed seen first rest text old new) c.play_script.result c.in_ok-script.ensures.all c.in_ok-script.ensures.short
    (subst (λ (text : List ℕ). PlaysOrStops seen g.O.OpensWorld.fails_for first rest text old new c.play_script.result) c.as_slice.ensures.value (c.play_script.ensures first rest is))
