use Rattle.std.proofs.Common.{◌≡◌, ℕ, List, Option, Err, OnOk, subst, ap, sym, ◌∙◌}
use Rattle.catalog.specs.FragmentLeaf.{schemas_of}
use Rattle.meaning.specs.declared.schema.RelationSchema.{RelationSchema}
use Rattle.lines.specs.declared.fault.ProgramFault.{ProgramFault}
use Rattle.lines.specs.declared.play_items.Placed.{Placed}
use Rattle.lines.specs.declared.script.ScriptFault.TheVariants as script
use Rattle.commands.specs.Play.{EndsOrStops, IsPlayed, IsPlayedOver, IsSound}
use Rattle.lines.specs.PlayItems.{items_of}
use Rattle.lines.specs.PlayLoad.{IsLoaded, IsMalformedAt}
use Rattle.databases.specs.Schedule.{world_over}
use Rattle.lines.specs.Script.{lines_of}
use Rattle.lines.proofs.LoadedLemmas.{loaded_fits}
use Rattle.commands.proofs.PlayLemmas.{ok_so, played, unloaded}
use Rattle.databases.proofs.ChainLemmas.{first_is}
use Rattle.commands.proofs.play.play_script.Goals as goal

pub play_over-requires : goal.play_over-requires
play_over-requires g c = λ first rest is.
    let whole = c.in-Ok.whole in
    let read : List Placed × Option ℕ = (c.in_ok-script.script.items.items, c.in_ok-script.script.malformed) in
    let here = first_is c.args.chain.now c.first_of.result.now c.first_of.ensures.0 first rest c.first_of.ensures.1 is in
    loaded_fits (schemas_of first) read whole (subst (λ (schema : List RelationSchema). IsLoaded schema read whole) (c.schema.ensures.schemas ∙ ap schemas_of here) c.in-Ok.ensures.loaded)

pub returns-in-Ok : goal.returns-in-Ok
returns-in-Ok g c = λ catalogue rest is.
    let seen = world_over g.D.DeskStore.is_clean g.S.SiteStore.is_clean g.D.DeskStore.is_sound g.S.SiteStore.is_sound g.D.DeskStore.kept g.S.SiteStore.kept g.D.DeskStore.refused g.S.SiteStore.refused in
    let text = c.args.script.now in
    let read = c.in_ok-script.ensures in
    let whole = c.in-Ok.whole in
    let first = first_is c.args.chain.now c.first_of.result.now c.first_of.ensures.0 catalogue rest c.first_of.ensures.1 is in
    let here : IsLoaded (schemas_of catalogue) (c.in_ok-script.script.items.items, c.in_ok-script.script.malformed) whole = subst (λ (schema : List RelationSchema). IsLoaded schema (c.in_ok-script.script.items.items, c.in_ok-script.script.malformed) whole) (c.schema.ensures.schemas ∙ ap schemas_of first) c.in-Ok.ensures.loaded in
    let loaded : IsLoaded (schemas_of catalogue) (items_of (lines_of text)) whole = subst (λ (items : List Placed × Option ℕ). IsLoaded (schemas_of catalogue) items whole) read here in
    let sound : IsSound catalogue text = (whole, loaded) in
    let items = c.as_slice.ensures.value ∙ ap (λ (items : List Placed × Option ℕ). items.0) read in
    let old = g.W.Write.contents c.args.output.now in
    let new = g.W.Write.contents c.play_over.new.output in
    let over = subst (λ (items : List Placed). OnOk c.play_over.result (IsPlayedOver seen catalogue rest whole items old new)) items (c.play_over.ensures.ok catalogue rest is) in
    let done : OnOk c.play_over.result (IsPlayed seen catalogue rest text old new) = ok_so c.play_over.result (λ over. record { sound = sound; played = over }) over in
    played g.O.OpensWorld.fails_for catalogue text old new (IsPlayed seen catalogue rest text old new) c.play_over.result sound done c.play_over.ensures.err

pub returns : goal.returns
returns g c = λ catalogue rest is.
    let seen = world_over g.D.DeskStore.is_clean g.S.SiteStore.is_clean g.D.DeskStore.is_sound g.S.SiteStore.is_sound g.D.DeskStore.kept g.S.SiteStore.kept g.D.DeskStore.refused g.S.SiteStore.refused in
    let text = c.args.script.now in
    let output = g.W.Write.contents c.args.output.now in
    let first = first_is c.args.chain.now c.first_of.result.now c.first_of.ensures.0 catalogue rest c.first_of.ensures.1 is in
    let why = λ (line : ℕ) (e : c.in-Err.fault ≡ script.Malformed line).
    subst (λ (items : List Placed × Option ℕ). IsMalformedAt (schemas_of catalogue) items line) c.in_ok-script.ensures
    (subst (λ (schema : List RelationSchema). IsMalformedAt schema (c.in_ok-script.script.items.items, c.in_ok-script.script.malformed) line) (c.schema.ensures.schemas ∙ ap schemas_of first)
    (c.loaded.ensures.malformed line (c.in-Err.is ∙ ap (λ fault. Err fault) e))) in
    subst (λ (fault : ProgramFault). EndsOrStops g.O.OpensWorld.fails_for catalogue text output output (IsPlayed seen catalogue rest text output output) (Err fault)) (sym c.from.ensures) (unloaded g.O.OpensWorld.fails_for catalogue text output (IsPlayed seen catalogue rest text output output) c.in-Err.fault why)
