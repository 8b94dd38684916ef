-- Why `commits` meets its contract.
use Rattle.desk.specs.declared.refusal.Refusal.TheVariants.{NoTransaction}
use Rattle.std.proofs.Common.{refl, subst, inl, inr}
use Rattle.world.proofs.Calls.{as_kind, stays}
use Rattle.world.specs.Commands.{is_outside, is_turned_down, makes_none, only_commits}
use Rattle.world.specs.Contents.{OfStores, counted}
use Rattle.world.specs.Course.{Commits, IsOne}
use Rattle.world.specs.Frame.{ComesTo}
use Rattle.world.specs.declared.event.Call.TheVariants as call
use Rattle.world.proofs.solo.Solo.commits.Goals as goal

pub returns-in-Ok-clause-comes : goal.returns-in-Ok-clause-comes
returns-in-Ok-clause-comes g c =
    let clean = OfStores g.D.DeskStore.is_clean g.S.SiteStore.is_clean in
    let sound = OfStores g.D.DeskStore.is_sound g.S.SiteStore.is_sound in
    let view = counted g.D.DeskStore.kept g.S.SiteStore.kept g.D.DeskStore.refused g.S.SiteStore.refused in
    let old = c.args.self.now.machines in
    let new = c.commit.new.machines in
    let txn = c.in-Some.txn in
    let first = subst (λ r. ComesTo clean sound view old new r (λ db. IsOne (λ heard. Commits txn heard.items) (call.Commit txn))) c.in-Ok.is c.commit.ensures in
    as_kind clean sound view old new _ _ (λ blamed. tt) (λ none. none)
    (λ db of n is moves k. inr (λ text spelled. only_commits c.in-Some.txn c.in-Ok.heard.items k (spelled, c.in-Some.is) refl refl)) first

pub returns-in-Err-clause-comes : goal.returns-in-Err-clause-comes
returns-in-Err-clause-comes g c =
    let clean = OfStores g.D.DeskStore.is_clean g.S.SiteStore.is_clean in
    let sound = OfStores g.D.DeskStore.is_sound g.S.SiteStore.is_sound in
    let view = counted g.D.DeskStore.kept g.S.SiteStore.kept g.D.DeskStore.refused g.S.SiteStore.refused in
    let old = c.args.self.now.machines in
    let new = c.commit.new.machines in
    let txn = c.in-Some.txn in
    let told = c.in-Err.refusal in
    let first = subst (λ r. ComesTo clean sound view old new r (λ db. IsOne (λ heard. Commits txn heard.items) (call.Commit txn))) c.in-Err.is c.commit.ensures in
    as_kind clean sound view old new _ _ (λ blamed. blamed) (λ stop. stop)
    (λ db of n is moves k. inr (λ text spelled. is_turned_down (call.Commit c.in-Some.txn) told k (spelled, c.in-Some.is) refl refl)) first

pub returns-in_default-clause-comes : goal.returns-in_default-clause-comes
returns-in_default-clause-comes g c =
    let clean = OfStores g.D.DeskStore.is_clean g.S.SiteStore.is_clean in
    let sound = OfStores g.D.DeskStore.is_sound g.S.SiteStore.is_sound in
    let view = counted g.D.DeskStore.kept g.S.SiteStore.kept g.D.DeskStore.refused g.S.SiteStore.refused in
    let old = c.args.self.now.machines in
    stays clean sound view old _ tt (λ db of n is. inr (λ text spelled. makes_none NoTransaction refl (is_outside c.in_default.is (inl spelled) refl) refl refl))
