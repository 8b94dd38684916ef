-- Why `run_autocommit` meets its contract.
use Rattle.std.proofs.Common.{refl, sym, ap, subst, inr, Err, ◌∙◌, ◌++◌, length}
use Rattle.world.proofs.Calls.{as_kind, then_too}
use Rattle.world.proofs.ReadOnce.{known_still, same_in_force}
use Rattle.world.specs.Commands.{IsLone, heard_in}
use Rattle.world.specs.Contents.{OfStores, counted}
use Rattle.world.specs.Course.{Begins, IsOne}
use Rattle.world.specs.Frame.{ComesTo}
use Rattle.world.specs.declared.event.Call.TheVariants as call
use Rattle.world.proofs.autocommit.run_autocommit.Goals as goal

pub returns-in-Ok : goal.returns-in-Ok
returns-in-Ok g c =
    let clean = OfStores g.D.DeskStore.is_clean g.S.SiteStore.is_clean in
    let sound = OfStores g.D.DeskStore.is_sound g.S.SiteStore.is_sound in
    let view = counted g.D.DeskStore.kept g.S.SiteStore.kept g.D.DeskStore.refused g.S.SiteStore.refused in
    let old = c.args.machines.now in
    let mid = c.begin.new.machines in
    let new = c.run_begun.new.machines in
    let first = subst (λ r. ComesTo clean sound view old mid r (λ db. IsOne (λ begun. Begins begun.txn begun.heard.items) (call.Begin))) c.in-Ok.is c.begin.ensures in
    then_too clean sound view old mid new _ c.run_begun.result
    (λ db one more is stated. subst (λ ms. IsLone c.args.text.now (ms ++ more) (heard_in (λ heard. heard.items) c.run_begun.result)) (sym is) stated) first c.run_begun.ensures

pub returns-in-Err : goal.returns-in-Err
returns-in-Err g c =
    let clean = OfStores g.D.DeskStore.is_clean g.S.SiteStore.is_clean in
    let sound = OfStores g.D.DeskStore.is_sound g.S.SiteStore.is_sound in
    let view = counted g.D.DeskStore.kept g.S.SiteStore.kept g.D.DeskStore.refused g.S.SiteStore.refused in
    let old = c.args.machines.now in
    let new = c.begin.new.machines in
    let first = subst (λ r. ComesTo clean sound view old new r (λ db. IsOne (λ begun. Begins begun.txn begun.heard.items) (call.Begin))) c.in-Err.is c.begin.ensures in
    as_kind clean sound view old new _ _ (λ blamed. blamed) (λ stop. stop)
    (λ db of n is moves k. inr (subst (λ ms. IsLone c.args.text.now ms (Err c.in-Err.refusal)) (sym k) refl)) first

pub run_begun-requires : goal.run_begun-requires
run_begun-requires g c = known_still c.args.machines.now.desk.catalog c.begin.new.machines.desk.catalog c.args.text.now c.args.statement c.still_read-known.result _ _ (λ long. same_in_force c.begin.ensures.catalogs (long ∙ ap length c.later-later.ensures)) c.requires c.still_read-known.ensures
