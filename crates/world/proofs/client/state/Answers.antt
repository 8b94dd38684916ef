-- Why `state` meets its contract.
use Rattle.std.proofs.Common.{rules, List, inl, Err, refl, ◌++◌, []}
use Rattle.std.specs.Global.{Vec}
use Rattle.protocol.specs.Desk.{State}
use Rattle.protocol.specs.Letters.{txn_name}
use Rattle.desk.specs.Database.{language}
use Rattle.desk.specs.declared.reply.Notice.{Notice}
use Rattle.world.specs.Counted.{counts}
use Rattle.world.specs.declared.event.Call.TheVariants as call
use Rattle.world.specs.Course.{IsOne, States}
use Rattle.world.specs.Mailbox.{Ask, Goes, Serves, To_do, asked, settled}
use Rattle.world.specs.Contents.{counted, held}
use Rattle.world.specs.Taking.{put_out_by}
use Rattle.world.proofs.InForce.{in_force_on}
use Rattle.world.proofs.Calls.{one_call}
use Rattle.world.proofs.Counting.{fit_uncounted, leads_counted, none_fewer, same_counted, with_counts, no_fewer_then, uncounted}
use Rattle.world.proofs.Deliveries.{call_serves}
use Rattle.world.proofs.Denials.{still_denied}
use Rattle.world.proofs.SiteSteps.{if_ok}
use Rattle.world.proofs.Reaching.{call_served, same_on}
use Rattle.world.proofs.Refusing.{if_err}
use Rattle.world.proofs.Stops.{call_since}
use Rattle.world.proofs.ListCalls.{lists_counted, refused_lists, state_makes}
use Rattle.world.proofs.ListDelivering.{asked_waits}
use Rattle.world.proofs.ListVain.{all_goes}
use Rattle.world.proofs.Leaves.{ends_alike, ends_then}
use Rattle.world.proofs.client.state.Goals as goal

pub returns-in-Ok : goal.returns-in-Ok
returns-in-Ok g c = one_call g.D.DeskStore.is_clean g.S.SiteStore.is_clean g.D.DeskStore.is_sound g.S.SiteStore.is_sound g.D.DeskStore.kept g.S.SiteStore.kept g.D.DeskStore.refused g.S.SiteStore.refused (λ heard. States c.args.txn c.args.text.now heard.items) (call.State c.args.txn c.args.text.now) c.args.machines.now c.deliver_all.new.machines c.deliver_all.result
    (record {
      clean = search rules;
      sound = search rules;
      counts = no_fewer_then (counts g.D.DeskStore.refused g.S.SiteStore.refused c.args.machines.now) (counts g.D.DeskStore.refused g.S.SiteStore.refused c.statement.new.self) (counts g.D.DeskStore.refused g.S.SiteStore.refused c.deliver_all.new.machines) (none_fewer (counts g.D.DeskStore.refused g.S.SiteStore.refused c.args.machines.now) (counts g.D.DeskStore.refused g.S.SiteStore.refused c.statement.new.self) (uncounted g.D.DeskStore.refused g.S.SiteStore.refused c.statement.ensures.uncalled)) c.deliver_all.ensures.leaves.counts;
      catalogs = ends_then (ends_alike c.statement.ensures.leaves.catalog c.statement.ensures.leaves.later) c.deliver_all.ensures.leaves.catalogs;
    })
    (λ clean sound. call_since c.deliver_all.result (counts g.D.DeskStore.refused g.S.SiteStore.refused c.args.machines.now) (counts g.D.DeskStore.refused g.S.SiteStore.refused c.statement.new.self) (counts g.D.DeskStore.refused g.S.SiteStore.refused c.deliver_all.new.machines) (none_fewer (counts g.D.DeskStore.refused g.S.SiteStore.refused c.args.machines.now) (counts g.D.DeskStore.refused g.S.SiteStore.refused c.statement.new.self) (uncounted g.D.DeskStore.refused g.S.SiteStore.refused c.statement.ensures.uncalled)) (c.deliver_all.ensures.blames clean (c.statement.ensures.leaves.sound (c.deliver_all.ensures.leaves.clean clean) sound)))
    (λ db whole past of law is clean sound served.
    let before = held g.D.DeskStore.kept g.S.SiteStore.kept c.args.machines.now in
    let mid = held g.D.DeskStore.kept g.S.SiteStore.kept c.statement.new.self in
    let old = counts g.D.DeskStore.refused g.S.SiteStore.refused c.args.machines.now in
    let new = counts g.D.DeskStore.refused g.S.SiteStore.refused c.statement.new.self in
    let after = counted g.D.DeskStore.kept g.S.SiteStore.kept g.D.DeskStore.refused g.S.SiteStore.refused c.deliver_all.new.machines in
    let fit = served.fit in
    let made = c.in-Ok.ensures.ok db of is (fit_uncounted db before old fit) in
    let ask : Ask (language db) = To_do (txn_name c.args.txn) (State (before.table.version, made.statement)) made.choice in
    let leads = leads_counted db (asked ask) before mid old new c.in-Ok.out.letters c.in-Ok.out.replies made.asked.leads in
    let is_mid = in_force_on db _ _ _ _ leads.version c.statement.ensures.leaves.catalog is in
    let sound_mid = c.statement.ensures.leaves.sound (c.deliver_all.ensures.leaves.clean clean) sound in
    call_served db law whole ask (with_counts before old) (with_counts mid new) after c.in-Ok.out past c.deliver_all.result (λ heard. heard.items) (refl, made.fits.stays) served leads (none_fewer old new (uncounted g.D.DeskStore.refused g.S.SiteStore.refused c.statement.ensures.uncalled))
    (c.deliver_all.ensures.ok db of is_mid clean sound_mid leads.fit) (c.deliver_all.ensures.err db of is_mid clean sound_mid leads.fit))
    (λ db of is clean sound fit.
    let before = held g.D.DeskStore.kept g.S.SiteStore.kept c.args.machines.now in
    let mid = held g.D.DeskStore.kept g.S.SiteStore.kept c.statement.new.self in
    let old = counts g.D.DeskStore.refused g.S.SiteStore.refused c.args.machines.now in
    let new = counts g.D.DeskStore.refused g.S.SiteStore.refused c.statement.new.self in
    let after = counted g.D.DeskStore.kept g.S.SiteStore.kept g.D.DeskStore.refused g.S.SiteStore.refused c.deliver_all.new.machines in
    let made = c.in-Ok.ensures.ok db of is (fit_uncounted db before old fit) in
    let ask : Ask (language db) = To_do (txn_name c.args.txn) (State (before.table.version, made.statement)) made.choice in
    let leads = leads_counted db (asked ask) before mid old new c.in-Ok.out.letters c.in-Ok.out.replies made.asked.leads in
    let serves : (heard : List Notice) → Goes db (λ w. w) (put_out_by (with_counts mid new) c.in-Ok.out) (settled after heard) → Serves db ask (with_counts before old) after heard = λ heard goes. call_serves db ask (with_counts before old) (with_counts mid new) c.in-Ok.out leads (none_fewer old new (uncounted g.D.DeskStore.refused g.S.SiteStore.refused c.statement.ensures.uncalled)) after heard goes in
    if_ok c.deliver_all.result (λ heard goes. record { statement = made.statement; spelled = made.spelled; fits = made.fits; asks = record { choice = made.choice; accepted = made.asked.accepted; within = made.asked.within; serves = serves heard.items goes } })
    (c.deliver_all.ensures.ok db of (in_force_on db _ _ _ _ leads.version c.statement.ensures.leaves.catalog is) clean (c.statement.ensures.leaves.sound (c.deliver_all.ensures.leaves.clean clean) sound) leads.fit))
    (λ db of is clean sound fit. if_err c.deliver_all.result (λ told stops. inl stops) c.deliver_all.ensures.own)
    (lists_counted g.D.DeskStore.is_clean g.S.SiteStore.is_clean g.D.DeskStore.is_sound g.S.SiteStore.is_sound g.D.DeskStore.kept g.S.SiteStore.kept g.D.DeskStore.refused g.S.SiteStore.refused c.args.machines.now c.deliver_all.new.machines c.deliver_all.result (λ db. IsOne (λ heard. States c.args.txn c.args.text.now heard.items) (call.State c.args.txn c.args.text.now))
    (λ db whole past listed stands clean sound served.
    let hold = held g.D.DeskStore.kept g.S.SiteStore.kept in
    let made = c.in-Ok.ensures.lists db listed.base.of_catalogue stands served.fit in
    let waits = asked_waits db whole listed c.args.txn made.0.choice (State ((hold c.args.machines.now).table.version, made.0.statement)) (hold c.args.machines.now) (hold c.statement.new.self) [] c.in-Ok.out.letters c.in-Ok.out.replies past served made.0.asked in
    let came = all_goes db whole _ listed (λ heard. heard.items) (hold c.statement.new.self) (hold c.deliver_all.new.machines) c.in-Ok.out (past ++ made.0.asked.leads.deeds) c.deliver_all.result waits
    (c.deliver_all.ensures.comes db listed made.1 clean (c.statement.ensures.leaves.sound (c.deliver_all.ensures.leaves.clean clean) sound) waits.fit) (c.deliver_all.ensures.lists db whole (past ++ made.0.asked.leads.deeds) listed made.1 clean (c.statement.ensures.leaves.sound (c.deliver_all.ensures.leaves.clean clean) sound) waits) in
    state_makes db whole c.args.txn c.args.text.now (λ heard. States c.args.txn c.args.text.now heard.items) (λ heard. heard.items) (hold c.args.machines.now) (hold c.statement.new.self) (hold c.deliver_all.new.machines) c.in-Ok.out past c.deliver_all.result (λ heard. refl) made.0 c.deliver_all.ensures.own came))

pub returns-in-Err : goal.returns-in-Err
returns-in-Err g c = one_call g.D.DeskStore.is_clean g.S.SiteStore.is_clean g.D.DeskStore.is_sound g.S.SiteStore.is_sound g.D.DeskStore.kept g.S.SiteStore.kept g.D.DeskStore.refused g.S.SiteStore.refused (λ heard. States c.args.txn c.args.text.now heard.items) (call.State c.args.txn c.args.text.now) c.args.machines.now c.statement.new.self (Err c.in-Err.refusal)
    (record {
      clean = search rules;
      sound = search rules;
      counts = none_fewer (counts g.D.DeskStore.refused g.S.SiteStore.refused c.args.machines.now) (counts g.D.DeskStore.refused g.S.SiteStore.refused c.statement.new.self) (uncounted g.D.DeskStore.refused g.S.SiteStore.refused c.statement.ensures.uncalled);
      catalogs = ends_alike c.statement.ensures.leaves.catalog c.statement.ensures.leaves.later;
    })
    (λ clean sound. c.in-Err.ensures.blames)
    (λ db whole past of law is clean sound served.
    let before = held g.D.DeskStore.kept g.S.SiteStore.kept c.args.machines.now in
    let mid = held g.D.DeskStore.kept g.S.SiteStore.kept c.statement.new.self in
    let old = counts g.D.DeskStore.refused g.S.SiteStore.refused c.args.machines.now in
    let new = counts g.D.DeskStore.refused g.S.SiteStore.refused c.statement.new.self in
    same_on db law whole (with_counts before old) (with_counts mid new) past served (same_counted before mid old new c.in-Err.ensures.err (uncounted g.D.DeskStore.refused g.S.SiteStore.refused c.statement.ensures.uncalled)))
    (λ db of is clean sound fit. tt)
    (λ db of is clean sound fit.
    let before = held g.D.DeskStore.kept g.S.SiteStore.kept c.args.machines.now in
    let mid = held g.D.DeskStore.kept g.S.SiteStore.kept c.statement.new.self in
    let old = counts g.D.DeskStore.refused g.S.SiteStore.refused c.args.machines.now in
    let new = counts g.D.DeskStore.refused g.S.SiteStore.refused c.statement.new.self in
    still_denied db (with_counts before old) (with_counts mid new) (call.State c.args.txn c.args.text.now) c.in-Err.refusal fit (same_counted before mid old new c.in-Err.ensures.err (uncounted g.D.DeskStore.refused g.S.SiteStore.refused c.statement.ensures.uncalled)) (c.in-Err.ensures.told db of is fit.desk))
    (refused_lists g.D.DeskStore.is_clean g.S.SiteStore.is_clean g.D.DeskStore.is_sound g.S.SiteStore.is_sound g.D.DeskStore.kept g.S.SiteStore.kept g.D.DeskStore.refused g.S.SiteStore.refused (λ (heard : Vec Notice). States c.args.txn c.args.text.now heard.items) (call.State c.args.txn c.args.text.now) c.in-Err.refusal c.args.machines.now c.statement.new.self (λ db listed stands fit. c.in-Err.ensures.told db listed.base.of_catalogue stands.here fit.desk) c.in-Err.ensures.err c.statement.ensures.leaves.catalog c.statement.ensures.leaves.later)
