-- Why `finish` meets its contract.
use Rattle.std.proofs.Common.{refl, sym, subst, ◌∙◌, [], Ok, ◌≡◌, true, false, inr}
use Rattle.world.specs.Contents.{OfStores, counted}
use Rattle.world.specs.declared.transaction.End as ends
use Rattle.world.specs.declared.transaction.End.TheVariants as end
use Rattle.world.specs.Batch.{MakesMore, calls_of_end}
use Rattle.world.proofs.BatchCalls.{runs_as, runs_well}
use Rattle.world.proofs.Calls.{stays}
use Rattle.world.proofs.batch.finish.Goals as goal

pub returns-then-ended : goal.returns-then-ended
returns-then-ended g c =
    let clean = OfStores g.D.DeskStore.is_clean g.S.SiteStore.is_clean in
    let sound = OfStores g.D.DeskStore.is_sound g.S.SiteStore.is_sound in
    let view = counted g.D.DeskStore.kept g.S.SiteStore.kept g.D.DeskStore.refused g.S.SiteStore.refused in
    let old = c.args.machines.now in
    runs_well clean sound view _ old old (λ moves. moves ≡ []) _ (λ db moves none. (λ going. let e : true ≡ false = sym c.if-ended.true ∙ going in absurd (cc), λ over. (refl, none)))
    (stays clean sound view old (Ok tt) tt (λ db of n is. inr refl))

pub returns-in-Commit : goal.returns-in-Commit
returns-in-Commit g c =
    let clean = OfStores g.D.DeskStore.is_clean g.S.SiteStore.is_clean in
    let sound = OfStores g.D.DeskStore.is_sound g.S.SiteStore.is_sound in
    let view = counted g.D.DeskStore.kept g.S.SiteStore.kept g.D.DeskStore.refused g.S.SiteStore.refused in
    let old = c.args.machines.now in
    runs_as clean sound view (λ db all moves. MakesMore (calls_of_end end.Commit c.args.txn) c.args.stated.came.items all.items moves) _ old c.ask_commit.new.machines c.ask_commit.result
    (λ db all moves makes. (λ going. subst (λ (e : ends.End). MakesMore (calls_of_end e c.args.txn) c.args.stated.came.items all.items moves) (sym c.in-Commit.is) makes, λ over. let e : false ≡ true = sym c.if-ended.false ∙ over in absurd (cc))) c.ask_commit.ensures

pub returns-in-Rollback : goal.returns-in-Rollback
returns-in-Rollback g c =
    let clean = OfStores g.D.DeskStore.is_clean g.S.SiteStore.is_clean in
    let sound = OfStores g.D.DeskStore.is_sound g.S.SiteStore.is_sound in
    let view = counted g.D.DeskStore.kept g.S.SiteStore.kept g.D.DeskStore.refused g.S.SiteStore.refused in
    let old = c.args.machines.now in
    runs_as clean sound view (λ db all moves. MakesMore (calls_of_end end.Rollback c.args.txn) c.args.stated.came.items all.items moves) _ old c.ask_rollback.new.machines c.ask_rollback.result
    (λ db all moves makes. (λ going. subst (λ (e : ends.End). MakesMore (calls_of_end e c.args.txn) c.args.stated.came.items all.items moves) (sym c.in-Rollback.is) makes, λ over. let e : false ≡ true = sym c.if-ended.false ∙ over in absurd (cc))) c.ask_rollback.ensures
