-- Why `begin` meets its contract.
use Rattle.world.specs.Contents.{counted}
use Rattle.world.proofs.Beginning.{begin_done}
use Rattle.world.proofs.SiteSteps.{if_both}
use Rattle.std.proofs.Common.{inr, Err, inl}
use Rattle.world.proofs.Beginning.{begin_still, begin_unheard}
use Rattle.world.proofs.Denials.{if_errs}
use Rattle.world.specs.Course.{Begins}
use Rattle.world.specs.declared.event.Call.TheVariants as call
use Rattle.world.proofs.Calls.{one_call}
use Rattle.world.specs.Counted.{counts}
use Rattle.world.proofs.Refusing.{if_err}
use Rattle.world.proofs.Stops.{limit_stops}
use Rattle.std.specs.Global.{Vec}
use Rattle.desk.specs.declared.reply.Notice.{Notice}
use Rattle.world.specs.declared.client.Begun.{Begun}
use Rattle.store.specs.declared.name.Txn.{Txn}
use Rattle.world.proofs.ListCalls.{named_makes, unnamed_makes}
use Rattle.world.proofs.client.begin.Goals as goal

pub returns-in-Ok : goal.returns-in-Ok
returns-in-Ok g c = one_call g.D.DeskStore.is_clean g.S.SiteStore.is_clean g.D.DeskStore.is_sound g.S.SiteStore.is_sound g.D.DeskStore.kept g.S.SiteStore.kept g.D.DeskStore.refused g.S.SiteStore.refused (λ begun. Begins begun.txn begun.heard.items) call.Begin c.args.machines.now c.greet.new.machines c.named.result c.greet.ensures.leaves
    (λ clean sound. if_err c.named.result (λ told full. limit_stops (counts g.D.DeskStore.refused g.S.SiteStore.refused c.args.machines.now) (counts g.D.DeskStore.refused g.S.SiteStore.refused c.greet.new.machines) told (inr full)) c.named.ensures.full)
    c.greet.ensures.served
    (λ db of is clean sound fit.
    if_both c.named.result (λ begun same first. begin_done db (counted g.D.DeskStore.kept g.S.SiteStore.kept g.D.DeskStore.refused g.S.SiteStore.refused c.args.machines.now) (counted g.D.DeskStore.kept g.S.SiteStore.kept g.D.DeskStore.refused g.S.SiteStore.refused c.greet.new.machines) c.in-Ok.heard.items (c.in-Ok.ensures.ok db of is clean sound fit) begun.txn begun.heard.items same first)
    c.named.ensures.same c.named.ensures.first)
    (λ db of is clean sound fit.
    let before = counted g.D.DeskStore.kept g.S.SiteStore.kept g.D.DeskStore.refused g.S.SiteStore.refused c.args.machines.now in
    let after = counted g.D.DeskStore.kept g.S.SiteStore.kept g.D.DeskStore.refused g.S.SiteStore.refused c.greet.new.machines in
    let serves = c.in-Ok.ensures.ok db of is clean sound fit in
    if_errs c.named.result (λ told full none. inr (inl (full, begin_unheard db before after c.in-Ok.heard.items serves none), begin_still db before after c.in-Ok.heard.items serves none))
    c.named.ensures.full c.named.ensures.none)
    (λ db whole past listed stands clean sound served.
    let after = counted g.D.DeskStore.kept g.S.SiteStore.kept g.D.DeskStore.refused g.S.SiteStore.refused c.greet.new.machines in
    let none : Txn = record { life = 0; number = 0 } in
    (named_makes db whole (λ begun. begun.txn) (λ begun. begun.heard.items) after c.in-Ok.heard.items past c.named.result (λ txn. (c.in-Ok.ensures.lists txn db whole past listed stands clean sound served).0) c.named.ensures.same c.named.ensures.none, (c.in-Ok.ensures.lists none db whole past listed stands clean sound served).1))

pub returns-in-Err : goal.returns-in-Err
returns-in-Err g c = one_call g.D.DeskStore.is_clean g.S.SiteStore.is_clean g.D.DeskStore.is_sound g.S.SiteStore.is_sound g.D.DeskStore.kept g.S.SiteStore.kept g.D.DeskStore.refused g.S.SiteStore.refused (λ begun. Begins begun.txn begun.heard.items) call.Begin c.args.machines.now c.greet.new.machines (Err c.in-Err.refusal) c.greet.ensures.leaves c.in-Err.ensures.blames c.greet.ensures.served (λ db of is clean sound fit. tt) c.in-Err.ensures.denied
    (λ db whole past listed stands clean sound served.
    let after = counted g.D.DeskStore.kept g.S.SiteStore.kept g.D.DeskStore.refused g.S.SiteStore.refused c.greet.new.machines in
    let none : Txn = record { life = 0; number = 0 } in
    let lists = c.in-Err.ensures.lists none db whole past listed stands clean sound served in
    (unnamed_makes db whole (λ (heard : Vec Notice). Begins none heard.items) (λ (begun : Begun). Begins begun.txn begun.heard.items) (λ (heard : Vec Notice). heard.items) after c.in-Err.refusal past lists.0, lists.1))
