-- Why `Schedule::parts` meets its contract.
use Rattle.std.proofs.Common.{◌≡◌, ap, inl, option_map, string_bytes, ◌∙◌}
use Rattle.std.proofs.lemmas.Result.{IfOk-weaker}
use Rattle.catalog.specs.Catalogue.{Catalogue}
use Rattle.catalog.specs.Relation.{catalogue_of}
use Rattle.world.specs.Settled.{parts_kept}
use Rattle.forms.specs.declared.mode.Mode.TheVariants.{Tabs}
use Rattle.databases.specs.Schedule.{world_over}
use Rattle.databases.specs.Shown.{IsShownParts, parts_text, sight_of}
use Rattle.databases.proofs.ReachedLemmas.{looks_leave}
use Rattle.databases.proofs.ShownLemmas.{unshown}
use Rattle.databases.proofs.schedule.Schedule.parts.Goals as goal

pub returns-in-Ok-clause-shown : goal.returns-in-Ok-clause-shown
returns-in-Ok-clause-shown g c = λ db whole clean has.
    let seen = world_over g.D.DeskStore.is_clean g.S.SiteStore.is_clean g.D.DeskStore.is_sound g.S.SiteStore.is_sound g.D.DeskStore.kept g.S.SiteStore.kept g.D.DeskStore.refused g.S.SiteStore.refused in
    let old = c.args.self.now.world in
    let machines = seen.machines old in
    let found = option_map (λ parts. parts.items) c.in-Ok.found in
    let kept : found ≡ parts_kept db machines c.args.leaf.now = c.in-Ok.ensures.parts db has.listed has.stands clean has.sound has.reached.1.fit in
    let over = ap catalogue_of (c.catalog.ensures ∙ c.parts.ensures.leaves.catalog) in
    IfOk-weaker c.parts_text.result _ _ (λ text h. inl (has.reached, h ∙ ap (λ (catalogue : Catalogue). parts_text Tabs catalogue c.args.name.now c.args.leaf.now found) over ∙ ap (parts_text Tabs (seen.catalogue old) c.args.name.now c.args.leaf.now) kept)) c.parts_text.ensures

pub returns-in-Ok-clause-leaves : goal.returns-in-Ok-clause-leaves
returns-in-Ok-clause-leaves g c = looks_leave g.D.DeskStore.is_clean g.S.SiteStore.is_clean g.D.DeskStore.is_sound g.S.SiteStore.is_sound g.D.DeskStore.kept g.S.SiteStore.kept g.D.DeskStore.refused g.S.SiteStore.refused c.args.self.now.world c.parts.new.self c.parts.ensures.leaves c.parts.ensures.same c.parts.ensures.entries

pub returns-in-Err-clause-leaves : goal.returns-in-Err-clause-leaves
returns-in-Err-clause-leaves g c = looks_leave g.D.DeskStore.is_clean g.S.SiteStore.is_clean g.D.DeskStore.is_sound g.S.SiteStore.is_sound g.D.DeskStore.kept g.S.SiteStore.kept g.D.DeskStore.refused g.S.SiteStore.refused c.args.self.now.world c.parts.new.self c.parts.ensures.leaves c.parts.ensures.same c.parts.ensures.entries

pub returns-in-Err-clause-shown : goal.returns-in-Err-clause-shown
returns-in-Err-clause-shown g c = λ db whole clean has.
    let seen = world_over g.D.DeskStore.is_clean g.S.SiteStore.is_clean g.D.DeskStore.is_sound g.S.SiteStore.is_sound g.D.DeskStore.kept g.S.SiteStore.kept g.D.DeskStore.refused g.S.SiteStore.refused in
    let old = c.args.self.now.world in
    unshown (λ text. string_bytes text) (seen.refused old) (seen.refused c.parts.new.self) c.args.name.now (IsShownParts (sight_of seen db whole old) c.args.name.now c.args.leaf.now) c.in-Err.fault c.failed.result
    (c.in-Err.ensures.fails db has.listed has.stands clean has.sound has.reached.1.fit) c.failed.ensures.told c.failed.ensures.of_store
