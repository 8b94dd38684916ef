-- Why `begins` meets its contract.
use Rattle.std.proofs.Common.{refl, subst, inr}
use Rattle.world.proofs.Calls.{as_kind, stays}
use Rattle.world.specs.Commands.{is_inside, is_turned_down, makes_none, only_begins}
use Rattle.desk.specs.declared.refusal.Refusal.TheVariants.{Busy}
use Rattle.world.specs.Contents.{OfStores, counted}
use Rattle.world.specs.Course.{Begins, IsOne}
use Rattle.world.specs.Frame.{ComesTo}
use Rattle.world.specs.declared.event.Call.TheVariants as call
use Rattle.world.proofs.solo.Solo.begins.Goals as goal

pub returns-in-Ok-clause-comes : goal.returns-in-Ok-clause-comes
returns-in-Ok-clause-comes g c =
    let clean = OfStores g.D.DeskStore.is_clean g.S.SiteStore.is_clean in
    let sound = OfStores g.D.DeskStore.is_sound g.S.SiteStore.is_sound in
    let view = counted g.D.DeskStore.kept g.S.SiteStore.kept g.D.DeskStore.refused g.S.SiteStore.refused in
    let old = c.args.self.now.machines in
    let new = c.begin.new.machines in
    let txn = c.in-Ok.begun.txn in
    let first = subst (λ r. ComesTo clean sound view old new r (λ db. IsOne (λ begun. Begins begun.txn begun.heard.items) (call.Begin))) c.in-Ok.is c.begin.ensures in
    as_kind clean sound view old new _ _ (λ blamed. tt) (λ none. none)
    (λ db of n is moves k. inr (λ text spelled. only_begins txn c.in-Ok.begun.heard.items k (spelled, c.in-None.is) refl refl)) first

pub returns-in-Err-clause-comes : goal.returns-in-Err-clause-comes
returns-in-Err-clause-comes g c =
    let clean = OfStores g.D.DeskStore.is_clean g.S.SiteStore.is_clean in
    let sound = OfStores g.D.DeskStore.is_sound g.S.SiteStore.is_sound in
    let view = counted g.D.DeskStore.kept g.S.SiteStore.kept g.D.DeskStore.refused g.S.SiteStore.refused in
    let old = c.args.self.now.machines in
    let new = c.begin.new.machines in
    let told = c.in-Err.refusal in
    let first = subst (λ r. ComesTo clean sound view old new r (λ db. IsOne (λ begun. Begins begun.txn begun.heard.items) (call.Begin))) c.in-Err.is c.begin.ensures in
    as_kind clean sound view old new _ _ (λ blamed. blamed) (λ stop. stop)
    (λ db of n is moves k. inr (λ text spelled. is_turned_down call.Begin told k (spelled, c.in-None.is) refl refl)) first

pub returns-in-Some-clause-comes : goal.returns-in-Some-clause-comes
returns-in-Some-clause-comes g c =
    let clean = OfStores g.D.DeskStore.is_clean g.S.SiteStore.is_clean in
    let sound = OfStores g.D.DeskStore.is_sound g.S.SiteStore.is_sound in
    let view = counted g.D.DeskStore.kept g.S.SiteStore.kept g.D.DeskStore.refused g.S.SiteStore.refused in
    let old = c.args.self.now.machines in
    stays clean sound view old _ tt (λ db of n is. inr (λ text spelled. makes_none Busy refl (is_inside _ c.in-Some.is spelled refl) refl refl))
