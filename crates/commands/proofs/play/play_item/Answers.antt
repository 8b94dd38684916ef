use Rattle.std.proofs.Common.{IfOk, string_bytes, subst, sym}
use Rattle.lines.specs.declared.play_script.Item.{Item}
use Rattle.commands.specs.Play.{PlaysItem}
use Rattle.databases.specs.Schedule.{world_over}
use Rattle.commands.proofs.PlayLemmas.{shows_leaf, shows_relation}
use Rattle.commands.proofs.play.play_item.Goals as goal

pub returns-in-Show-clause-plays : goal.returns-in-Show-clause-plays
returns-in-Show-clause-plays g c =
    let seen = world_over g.D.DeskStore.is_clean g.S.SiteStore.is_clean g.D.DeskStore.is_sound g.S.SiteStore.is_sound g.D.DeskStore.kept g.S.SiteStore.kept g.D.DeskStore.refused g.S.SiteStore.refused in
    subst (λ (one : Item). IfOk c.show.result (λ told. PlaysItem seen one c.args.schedule.now c.show.new.self (string_bytes told))) (sym c.in-Show.is)
    (shows_relation seen c.in-Show.name (λ text. string_bytes text) c.args.schedule.now c.show.new.self c.show.result c.show.ensures.same c.show.ensures.shown)

pub returns-in-Leaf-clause-plays : goal.returns-in-Leaf-clause-plays
returns-in-Leaf-clause-plays g c =
    let seen = world_over g.D.DeskStore.is_clean g.S.SiteStore.is_clean g.D.DeskStore.is_sound g.S.SiteStore.is_sound g.D.DeskStore.kept g.S.SiteStore.kept g.D.DeskStore.refused g.S.SiteStore.refused in
    subst (λ (one : Item). IfOk c.leaf.result (λ told. PlaysItem seen one c.args.schedule.now c.leaf.new.self (string_bytes told))) (sym c.in-Leaf.is)
    (shows_leaf seen c.in-Leaf.name (λ text. string_bytes text) c.args.schedule.now c.leaf.new.self c.leaf.result c.leaf.ensures.same c.leaf.ensures.shown)
