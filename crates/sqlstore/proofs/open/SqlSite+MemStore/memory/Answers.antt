use Rattle.std.proofs.Common.{refl, sym, ap, ◌∙◌, inr}
use Rattle.sqlite.specs.Effect.{Database}
use Rattle.sqlite.proofs.Callers.{memory_is_clean}
use Rattle.sqlstore.proofs.open.SqlSite+MemStore.memory.Goals as goal

pub returns-in-Ok-adopt-clause-clean : goal.returns-in-Ok-adopt-clause-clean
returns-in-Ok-adopt-clause-clean c = (memory_is_clean c.in-Ok-adopt.site.conn, refl)

pub returns-in-Ok-adopt-clause-sound : goal.returns-in-Ok-adopt-clause-sound
returns-in-Ok-adopt-clause-sound c =
    let empty = c.in-Ok.ensures.empty in
    (c.in-Ok-adopt.ensures.fresh (memory_is_clean c.in-Ok-adopt.site.conn, refl) (ap (λ (db : Database). db.schema) (sym empty.0.clean) ∙ empty.2)).0

pub returns-in-Ok-adopt-clause-kept : goal.returns-in-Ok-adopt-clause-kept
returns-in-Ok-adopt-clause-kept c =
    let empty = c.in-Ok.ensures.empty in
    (c.in-Ok-adopt.ensures.fresh (memory_is_clean c.in-Ok-adopt.site.conn, refl) (ap (λ (db : Database). db.schema) (sym empty.0.clean) ∙ empty.2)).1

pub returns-clause-intact : goal.returns-clause-intact
returns-clause-intact c =
    let empty = c.in-Ok.ensures.empty in
    let intact = c.in-Err.ensures.intact (memory_is_clean c.in-Err.field-0-1, refl) (inr (ap (λ (db : Database). db.schema) (sym empty.0.clean) ∙ empty.2)) in
    λ damaged. intact (let same = damaged in cc)
