-- Why `World::pass` meets its contract.
use Rattle.world.proofs.Leaves.{database_still}
use Rattle.std.proofs.Common.{subst, ◌∙◌, sym, inl}
use Rattle.world.specs.declared.event.Event.{Event}
use Rattle.world.specs.Counted.{counts}
use Rattle.world.specs.Following.{Happens}
use Rattle.world.specs.Contents.{OfStores, held}
use Rattle.world.proofs.Counting.{with_counts}
use Rattle.world.proofs.RunGoesOn.{passes_by, runs_same}
use Rattle.world.proofs.Refusals.{refused_soundly}
use Rattle.world.proofs.Listing.{desk_stays, stands_as}
use Rattle.world.proofs.SiteSteps.{on_any_err}
use Rattle.std.proofs.Common.{refl}
use Rattle.world.proofs.world.World.pass.Goals as goal

-- so whichever catalogue comes into force
pub returns-in-Ok-clause-happens : goal.returns-in-Ok-clause-happens
returns-in-Ok-clause-happens g c = λ db listed stands clean sound fit.
    let entry = c.in-Ok.ensures.entry in
    inl (entry.0, (entry.1.0 ∙ c.in_ok-again.ensures, entry.1.1))

pub returns-else-is_memory-clause-happens : goal.returns-else-is_memory-clause-happens
returns-else-is_memory-clause-happens g c = λ db listed stands clean sound fit.
    let D = g.D.DeskStore in
    let S = g.S.SiteStore in
    let old = c.args.self.now in
    let new = c.happens.new.self in
    let a = counts D.refused S.refused old.machines in
    let b = counts D.refused S.refused new.machines in
    let before = held D.kept S.kept old.machines in
    let after = held D.kept S.kept new.machines in
    subst (λ (what : Event). Happens db what (with_counts before a) old.entries.items (with_counts after b) new.entries.items) c.in_ok-again.ensures
    (passes_by db c.in_ok-again.again before after a b old.entries.items new.entries.items c.in-Err.fault (sym c.is_memory.ensures ∙ c.if-is_memory.false)
    (refused_soundly (OfStores D.is_clean S.is_clean new.machines × OfStores D.is_sound S.is_sound old.machines) db (with_counts before a) (with_counts after b) old.entries.items c.in_ok-again.again c.in-Err.fault (clean, sound) (c.in-Err.ensures.refused db listed stands fit))
    (c.in-Err.ensures.err clean sound) c.in-Err.ensures.same)

pub returns-in_err-again-clause-leaves : goal.returns-in_err-again-clause-leaves
returns-in_err-again-clause-leaves g c = database_still g.D.DeskStore.is_clean g.S.SiteStore.is_clean g.D.DeskStore.is_sound g.S.SiteStore.is_sound g.D.DeskStore.refused g.S.SiteStore.refused c.args.self.now.machines

pub returns-in-Ok-clause-runs : goal.returns-in-Ok-clause-runs
returns-in-Ok-clause-runs g c = λ db whole past listed stands clean sound run.
    let did = c.in-Ok.ensures.goes_on db whole past listed stands clean sound run in
    (record { deeds = did.0.0.deeds; run_on = did.0.0.run_on }, did.1)

pub returns-else-is_memory-clause-runs : goal.returns-else-is_memory-clause-runs
returns-else-is_memory-clause-runs g c = λ db whole past listed stands clean sound run.
    let before = held g.D.DeskStore.kept g.S.SiteStore.kept c.args.self.now.machines in
    let after = held g.D.DeskStore.kept g.S.SiteStore.kept c.happens.new.self.machines in
    let stays = c.in-Err.ensures.stays in (
      runs_same db whole before after c.args.self.now.entries.items c.happens.new.self.entries.items past run (c.in-Err.ensures.err clean sound) c.in-Err.ensures.same,
      stands_as db c.args.self.now.machines.desk c.happens.new.self.machines.desk stays.version stays.catalog stays.later stands,
    )

pub returns-in_err-again-clause-stays : goal.returns-in_err-again-clause-stays
returns-in_err-again-clause-stays g c = on_any_err c.from_residual.result (desk_stays c.args.self.now.machines c.args.self.now.machines refl)
