use Rattle.std.proofs.Common.{◌≡◌, ◌++◌, ◌∷◌, [], ◌+◌, ℕ, List, take, string_bytes, true, is_ok, ap, refl, sym, subst, arith, rules, ◌∙◌}
use Rattle.std.specs.FinMap as finite
use Rattle.std.specs.Io.KnownBytes.{Appends}
use Rattle.std.proofs.lemmas.List.{take_more}
use Rattle.desk.specs.CatalogueDatabase.{database}
use Rattle.lines.specs.declared.play_items.Placed.{Placed}
use Rattle.commands.specs.Play.{PlaysItems}
use Rattle.databases.specs.Schedule.{HasRun, world_over}
use Rattle.commands.proofs.PlayLemmas.{Plays-counted, PlaysItems-more}
use Rattle.databases.proofs.ReachedLemmas.{leaves_same, leaves_then}
use Rattle.databases.proofs.SoloLemmas.{at_ok}
use Rattle.commands.proofs.play.play_items.Goals as goal

pub loop-placed-init : goal.loop-placed-init
loop-placed-init g c = record {
  played = record { told = []; said = search rules; plays = λ db whole. (refl, refl) };
  counted = c.requires;
  leaves = leaves_same (world_over g.D.DeskStore.is_clean g.S.SiteStore.is_clean g.D.DeskStore.is_sound g.S.SiteStore.is_sound g.D.DeskStore.kept g.S.SiteStore.kept g.D.DeskStore.refused g.S.SiteStore.refused) c.args.schedule.now.world;
}

pub loop-placed-preserved : goal.loop-placed-preserved
loop-placed-preserved g c =
    let seen = world_over g.D.DeskStore.is_clean g.S.SiteStore.is_clean g.D.DeskStore.is_sound g.S.SiteStore.is_sound g.D.DeskStore.kept g.S.SiteStore.kept g.D.DeskStore.refused g.S.SiteStore.refused in
    let so_far = c.loop-placed.invariant in
    let items = c.args.items.now in
    let index = c.loop-placed.placed-index in
    let before = c.args.schedule.now in
    let middle = c.loop-placed.schedule in
    let after = c.play_item.new.schedule in
    let placed = c.placed-item.result in
    let told = string_bytes c.in_ok-told.told in
    let db = database (seen.catalogue middle.world) in
    let first = g.W.Write.contents c.args.output.now in
    let second = g.W.Write.contents c.loop-placed.output in
    let third = g.W.Write.contents c.write_all.new.self in
    let bytes : c.as_bytes.result.now ≡ told = search rules in
    let wrote : is_ok c.write_all.result ≡ true = sym c.map_err.ensures.variant ∙ ap is_ok c.in_ok-map_err.was in
    let said = subst (λ (text : List ℕ). Appends second third text) bytes (at_ok c.write_all.result wrote c.write_all.ensures.bytes) in
    let more : take (index + 1) items ≡ take index items ++ placed ∷ [] = take_more items index _ (omega arith) ∙ ap (λ (one : Placed). take index items ++ one ∷ []) (sym c.placed-item.is) in
    record {
      played = subst (λ (played : List Placed). PlaysItems seen played first third before after) (sym more)
          (PlaysItems-more seen (take index items) placed first second third before middle after told so_far.played c.in_ok-told.ensures.plays said so_far.leaves c.play_item.ensures.leaves);
      counted = Plays-counted seen (seen.is_clean after.world × HasRun seen db finite.empty middle.world) db finite.empty placed.item middle after told (c.in_ok-told.ensures.plays db finite.empty) so_far.counted;
      leaves = leaves_then seen before.world middle.world after.world so_far.leaves c.play_item.ensures.leaves;
    }

pub returns-in_err-told-clause-leaves : goal.returns-in_err-told-clause-leaves
returns-in_err-told-clause-leaves g c = leaves_then (world_over g.D.DeskStore.is_clean g.S.SiteStore.is_clean g.D.DeskStore.is_sound g.S.SiteStore.is_sound g.D.DeskStore.kept g.S.SiteStore.kept g.D.DeskStore.refused g.S.SiteStore.refused) c.args.schedule.now.world c.loop-placed.schedule.world c.play_item.new.schedule.world c.loop-placed.invariant.leaves c.play_item.ensures.leaves

pub returns-in_err-map_err-clause-leaves : goal.returns-in_err-map_err-clause-leaves
returns-in_err-map_err-clause-leaves g c = leaves_then (world_over g.D.DeskStore.is_clean g.S.SiteStore.is_clean g.D.DeskStore.is_sound g.S.SiteStore.is_sound g.D.DeskStore.kept g.S.SiteStore.kept g.D.DeskStore.refused g.S.SiteStore.refused) c.args.schedule.now.world c.loop-placed.schedule.world c.play_item.new.schedule.world c.loop-placed.invariant.leaves c.play_item.ensures.leaves
