-- Why histories that are woven are judged so.
use Rattle.std.proofs.Common.{◌≡◌, List, ap, subst, ◌∙◌}
use Rattle.history.specs.declared.told.Told.{Told}
use Rattle.history.specs.Picks.{rows_of}
use Rattle.runs.specs.Run.{AreWoven, lists_told}
use Rattle.runs.proofs.run_records.verdict.Goals as goal

pub returns-in-Ok : goal.returns-in-Ok
returns-in-Ok g c =
    let records = c.args.records.now in
    let told : rows_of c.as_slice.result.now ≡ lists_told c.args.conversations.now = ap rows_of c.as_slice.ensures.value ∙ c.in_ok-lists.ensures in
    let woven : AreWoven g.D.DeskStore.is_clean g.D.DeskStore.is_sound g.D.DeskStore.kept g.S.SiteStore.is_clean g.S.SiteStore.is_sound g.S.SiteStore.kept records.machines records.catalogs.items records.opening records.entries.items records.pasts.items (rows_of c.as_slice.result.now) =
    record { events = c.in-Ok.field-0.items; woven = c.in-Ok.ensures.woven; run = λ db listed of clean. c.in-Ok.ensures.run db listed of clean c.requires } in
    subst (λ (lists : List (List Told)). AreWoven g.D.DeskStore.is_clean g.D.DeskStore.is_sound g.D.DeskStore.kept g.S.SiteStore.is_clean g.S.SiteStore.is_sound g.S.SiteStore.kept records.machines records.catalogs.items records.opening records.entries.items records.pasts.items lists) told woven
