-- Why `Schedule::show` meets its contract.
use Rattle.std.proofs.Common.{◌≡◌, ℕ, List, IfOk, ap, inl, option_map, string_bytes, subst, ◌∙◌}
use Rattle.std.proofs.lemmas.Result.{IfOk-weaker}
use Rattle.catalog.specs.Catalogue.{Catalogue}
use Rattle.catalog.specs.Relation.{catalogue_of}
use Rattle.forms.specs.declared.mode.Mode.TheVariants.{Tabs}
use Rattle.databases.specs.Schedule.{world_over}
use Rattle.databases.specs.Shown.{IsShownRelation, failed_text, relation_text, sight_of}
use Rattle.databases.proofs.ReachedLemmas.{looks_leave}
use Rattle.databases.proofs.ShownLemmas.{unshown}
use Rattle.databases.proofs.schedule.Schedule.show.Goals as goal

pub returns-in-Ok-clause-shown : goal.returns-in-Ok-clause-shown
returns-in-Ok-clause-shown g c = λ db whole clean has.
    let found = option_map (λ rows. rows.items) c.in-Ok.found in
    let serial = c.in-Ok.ensures.serial db whole has.reached.0 has.listed has.stands clean has.sound has.reached.1 in
    let over = ap catalogue_of (c.catalog.ensures ∙ c.rebuilt.ensures.leaves.catalog) in
    IfOk-weaker c.relation_text.result _ _ (λ text h. inl (found, serial, h ∙ ap (λ (catalogue : Catalogue). relation_text Tabs catalogue c.args.name.now found) over)) c.relation_text.ensures

pub returns-in-Ok-clause-leaves : goal.returns-in-Ok-clause-leaves
returns-in-Ok-clause-leaves g c = looks_leave g.D.DeskStore.is_clean g.S.SiteStore.is_clean g.D.DeskStore.is_sound g.S.SiteStore.is_sound g.D.DeskStore.kept g.S.SiteStore.kept g.D.DeskStore.refused g.S.SiteStore.refused c.args.self.now.world c.rebuilt.new.self c.rebuilt.ensures.leaves c.rebuilt.ensures.same c.rebuilt.ensures.entries

pub returns-in-Err-clause-leaves : goal.returns-in-Err-clause-leaves
returns-in-Err-clause-leaves g c = looks_leave g.D.DeskStore.is_clean g.S.SiteStore.is_clean g.D.DeskStore.is_sound g.S.SiteStore.is_sound g.D.DeskStore.kept g.S.SiteStore.kept g.D.DeskStore.refused g.S.SiteStore.refused c.args.self.now.world c.rebuilt.new.self c.rebuilt.ensures.leaves c.rebuilt.ensures.same c.rebuilt.ensures.entries

pub returns-in-Err-clause-shown : goal.returns-in-Err-clause-shown
returns-in-Err-clause-shown g c = λ db whole clean has.
    let seen = world_over g.D.DeskStore.is_clean g.S.SiteStore.is_clean g.D.DeskStore.is_sound g.S.SiteStore.is_sound g.D.DeskStore.kept g.S.SiteStore.kept g.D.DeskStore.refused g.S.SiteStore.refused in
    let old = c.args.self.now.world in
    let told = subst (λ (name : List ℕ). IfOk c.failed.result (λ text. string_bytes text ≡ failed_text name c.in-Err.fault)) c.as_str.ensures c.failed.ensures.told in
    unshown (λ text. string_bytes text) (seen.refused old) (seen.refused c.rebuilt.new.self) c.args.name.now (IsShownRelation (sight_of seen db whole old) c.args.name.now) c.in-Err.fault c.failed.result
    (c.in-Err.ensures.fails_after db whole has.reached.0 has.listed has.stands clean has.sound has.reached.1) told c.failed.ensures.of_store
