-- Why `conclude` meets its contract.
use Rattle.std.proofs.Common.{◌≡◌, List, Some, slice_get, subst}
use Rattle.std.specs.Option.{option_map}
use Rattle.store.specs.declared.name.Txn.{Txn}
use Rattle.desk.specs.declared.reply.Notice.{Notice}
use Rattle.world.specs.Commands.{IsDecided, heard_in}
use Rattle.world.specs.Contents.{counted}
use Rattle.world.specs.Counted.{counts}
use Rattle.world.proofs.ListCalls.{makes_as}
use Rattle.world.proofs.Calls.{leaves_of}
use Rattle.world.proofs.Leaves.{database_still}
use Rattle.world.proofs.Stops.{full_stops}
use Rattle.world.proofs.refragmentation.conclude.Goals as goal

pub returns-in-Ok-clause-leaves : goal.returns-in-Ok-clause-leaves
returns-in-Ok-clause-leaves g c = leaves_of g.D.DeskStore.is_clean g.S.SiteStore.is_clean g.D.DeskStore.is_sound g.S.SiteStore.is_sound g.D.DeskStore.kept g.S.SiteStore.kept g.D.DeskStore.refused g.S.SiteStore.refused c.args.machines.now c.decide.new.machines c.decide.result c.decide.ensures

pub returns-in-Ok-clause-blames : goal.returns-in-Ok-clause-blames
returns-in-Ok-clause-blames g c = λ clean sound. c.decide.ensures.blames clean sound

pub returns-in-Err-clause-leaves : goal.returns-in-Err-clause-leaves
returns-in-Err-clause-leaves g c = database_still g.D.DeskStore.is_clean g.S.SiteStore.is_clean g.D.DeskStore.is_sound g.S.SiteStore.is_sound g.D.DeskStore.refused g.S.SiteStore.refused c.args.machines.now

pub returns-in-Err-clause-blames : goal.returns-in-Err-clause-blames
returns-in-Err-clause-blames g c = λ clean sound. full_stops (counts g.D.DeskStore.refused g.S.SiteStore.refused c.args.machines.now) (counts g.D.DeskStore.refused g.S.SiteStore.refused c.args.machines.now) c.in-Err.refusal c.in-Err.ensures.full

pub returns-in-Ok-clause-lists : goal.returns-in-Ok-clause-lists
returns-in-Ok-clause-lists g c = λ some db whole past listed stands clean sound served.
    let after = counted g.D.DeskStore.kept g.S.SiteStore.kept g.D.DeskStore.refused g.S.SiteStore.refused c.decide.new.machines in
    let begun = c.in-Ok.begun in
    let made = c.decide.ensures.lists db whole past listed stands clean sound served in (
      makes_as db whole after past c.decide.result (λ done moves. IsDecided begun.txn begun.heard.items moves (heard_in (λ heard. heard.items) done)) (λ done moves. (txn : Txn) × (option_map (λ notice. notice.txn) (slice_get c.args.heard.items 0) ≡ Some txn) × IsDecided txn c.args.heard.items moves (heard_in (λ heard. heard.items) done))
          (λ moves decided. (begun.txn, c.in-Ok.ensures.first, subst (λ (heard : List Notice). IsDecided begun.txn heard moves (heard_in (λ heard. heard.items) c.decide.result)) c.in-Ok.ensures.same decided)) made.0,
      made.1,
    )

pub returns-in-Err-clause-lists : goal.returns-in-Err-clause-lists
returns-in-Err-clause-lists g c = λ some. absurd (some c.in-Err.ensures.none)
