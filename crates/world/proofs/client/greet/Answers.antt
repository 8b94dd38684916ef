-- Why `greet` meets its contract.
use Rattle.std.proofs.Common.{rules, List, inl, ◌++◌, ◌≢◌, [], refl, IfOk}
use Rattle.std.specs.Global.{Vec}
use Rattle.desk.specs.Database.{language}
use Rattle.desk.specs.declared.reply.Notice.{Notice}
use Rattle.world.specs.Counted.{counts}
use Rattle.world.specs.declared.event.Call.TheVariants as call
use Rattle.world.specs.Mailbox.{Ask, Goes, Serves, To_begin, asked, settled}
use Rattle.world.specs.Contents.{counted, held}
use Rattle.world.specs.Taking.{put_out_by}
use Rattle.world.proofs.InForce.{in_force_on}
use Rattle.world.proofs.Counting.{fit_uncounted, leads_counted, none_fewer, same_counted, with_counts, no_fewer_then, uncounted}
use Rattle.world.proofs.Deliveries.{call_serves}
use Rattle.world.proofs.Denials.{still_denied}
use Rattle.world.proofs.SiteSteps.{if_ok}
use Rattle.world.proofs.Reaching.{call_served, same_on}
use Rattle.world.proofs.Refusing.{if_err}
use Rattle.world.proofs.Running.{over_of}
use Rattle.world.proofs.Stops.{call_since}
use Rattle.world.specs.Course.{Begins, IsOne}
use Rattle.world.proofs.ListCalls.{begin_makes, lists_counted, unbegun_lists}
use Rattle.world.proofs.ListDelivering.{begun_waits}
use Rattle.world.proofs.ListVain.{all_goes}
use Rattle.world.proofs.Leaves.{ends_alike, ends_then}
use Rattle.world.proofs.client.greet.Goals as goal

pub returns-in-Ok-clause-ok : goal.returns-in-Ok-clause-ok
returns-in-Ok-clause-ok g c = λ db of is clean sound fit.
    let before = held g.D.DeskStore.kept g.S.SiteStore.kept c.args.machines.now in
    let mid = held g.D.DeskStore.kept g.S.SiteStore.kept c.begin.new.self in
    let old = counts g.D.DeskStore.refused g.S.SiteStore.refused c.args.machines.now in
    let new = counts g.D.DeskStore.refused g.S.SiteStore.refused c.begin.new.self in
    let after = counted g.D.DeskStore.kept g.S.SiteStore.kept g.D.DeskStore.refused g.S.SiteStore.refused c.deliver_all.new.machines in
    let made = c.in-Ok.ensures.ok db (over_of db _ c.args.machines.now.desk.catalog of is) (fit_uncounted db before old fit) in
    let ask : Ask (language db) = To_begin in
    let leads = leads_counted db (asked ask) before mid old new c.in-Ok.out.letters c.in-Ok.out.replies made in
    let serves : (heard : List Notice) → Goes db (λ w. w) (put_out_by (with_counts mid new) c.in-Ok.out) (settled after heard) → Serves db ask (with_counts before old) after heard = λ heard goes. call_serves db ask (with_counts before old) (with_counts mid new) c.in-Ok.out leads (none_fewer old new (uncounted g.D.DeskStore.refused g.S.SiteStore.refused c.begin.ensures.uncalled)) after heard goes in
    if_ok c.deliver_all.result (λ heard goes. serves heard.items goes)
    (c.deliver_all.ensures.ok db of (in_force_on db _ _ _ _ leads.version c.begin.ensures.leaves.catalog is) clean (c.begin.ensures.leaves.sound (c.deliver_all.ensures.leaves.clean clean) sound) leads.fit)

pub returns-in-Ok-clause-served : goal.returns-in-Ok-clause-served
returns-in-Ok-clause-served g c = λ db whole past of law is clean sound served.
    let before = held g.D.DeskStore.kept g.S.SiteStore.kept c.args.machines.now in
    let mid = held g.D.DeskStore.kept g.S.SiteStore.kept c.begin.new.self in
    let old = counts g.D.DeskStore.refused g.S.SiteStore.refused c.args.machines.now in
    let new = counts g.D.DeskStore.refused g.S.SiteStore.refused c.begin.new.self in
    let after = counted g.D.DeskStore.kept g.S.SiteStore.kept g.D.DeskStore.refused g.S.SiteStore.refused c.deliver_all.new.machines in
    let fit = served.fit in
    let made = c.in-Ok.ensures.ok db (over_of db _ c.args.machines.now.desk.catalog of is) (fit_uncounted db before old fit) in
    let ask : Ask (language db) = To_begin in
    let leads = leads_counted db (asked ask) before mid old new c.in-Ok.out.letters c.in-Ok.out.replies made in
    let is_mid = in_force_on db _ _ _ _ leads.version c.begin.ensures.leaves.catalog is in
    let sound_mid = c.begin.ensures.leaves.sound (c.deliver_all.ensures.leaves.clean clean) sound in
    call_served db law whole ask (with_counts before old) (with_counts mid new) after c.in-Ok.out past c.deliver_all.result (λ heard. heard.items) tt served leads (none_fewer old new (uncounted g.D.DeskStore.refused g.S.SiteStore.refused c.begin.ensures.uncalled))
    (c.deliver_all.ensures.ok db of is_mid clean sound_mid leads.fit) (c.deliver_all.ensures.err db of is_mid clean sound_mid leads.fit)

pub returns-in-Err-clause-served : goal.returns-in-Err-clause-served
returns-in-Err-clause-served g c = λ db whole past of law is clean sound served.
    let before = held g.D.DeskStore.kept g.S.SiteStore.kept c.args.machines.now in
    let mid = held g.D.DeskStore.kept g.S.SiteStore.kept c.begin.new.self in
    let old = counts g.D.DeskStore.refused g.S.SiteStore.refused c.args.machines.now in
    let new = counts g.D.DeskStore.refused g.S.SiteStore.refused c.begin.new.self in
    same_on db law whole (with_counts before old) (with_counts mid new) past served (same_counted before mid old new c.in-Err.ensures.err (uncounted g.D.DeskStore.refused g.S.SiteStore.refused c.begin.ensures.uncalled))

pub returns-in-Ok-clause-denied : goal.returns-in-Ok-clause-denied
returns-in-Ok-clause-denied g c = λ db of is clean sound fit. if_err c.deliver_all.result (λ told stops. inl stops) c.deliver_all.ensures.own

pub returns-in-Err-clause-denied : goal.returns-in-Err-clause-denied
returns-in-Err-clause-denied g c = λ db of is clean sound fit.
    let before = held g.D.DeskStore.kept g.S.SiteStore.kept c.args.machines.now in
    let mid = held g.D.DeskStore.kept g.S.SiteStore.kept c.begin.new.self in
    let old = counts g.D.DeskStore.refused g.S.SiteStore.refused c.args.machines.now in
    let new = counts g.D.DeskStore.refused g.S.SiteStore.refused c.begin.new.self in
    still_denied db (with_counts before old) (with_counts mid new) call.Begin c.in-Err.refusal fit (same_counted before mid old new c.in-Err.ensures.err (uncounted g.D.DeskStore.refused g.S.SiteStore.refused c.begin.ensures.uncalled)) (c.in-Err.ensures.full db (over_of db _ c.args.machines.now.desk.catalog of is) fit.desk)

pub returns-in-Ok-clause-leaves : goal.returns-in-Ok-clause-leaves
returns-in-Ok-clause-leaves g c = record {
  clean = search rules;
  sound = search rules;
  counts = no_fewer_then (counts g.D.DeskStore.refused g.S.SiteStore.refused c.args.machines.now) (counts g.D.DeskStore.refused g.S.SiteStore.refused c.begin.new.self) (counts g.D.DeskStore.refused g.S.SiteStore.refused c.deliver_all.new.machines) (none_fewer (counts g.D.DeskStore.refused g.S.SiteStore.refused c.args.machines.now) (counts g.D.DeskStore.refused g.S.SiteStore.refused c.begin.new.self) (uncounted g.D.DeskStore.refused g.S.SiteStore.refused c.begin.ensures.uncalled)) c.deliver_all.ensures.leaves.counts;
  catalogs = ends_then (ends_alike c.begin.ensures.leaves.catalog c.begin.ensures.leaves.later) c.deliver_all.ensures.leaves.catalogs;
}

pub returns-in-Ok-clause-blames : goal.returns-in-Ok-clause-blames
returns-in-Ok-clause-blames g c = λ clean sound. call_since c.deliver_all.result (counts g.D.DeskStore.refused g.S.SiteStore.refused c.args.machines.now) (counts g.D.DeskStore.refused g.S.SiteStore.refused c.begin.new.self) (counts g.D.DeskStore.refused g.S.SiteStore.refused c.deliver_all.new.machines) (none_fewer (counts g.D.DeskStore.refused g.S.SiteStore.refused c.args.machines.now) (counts g.D.DeskStore.refused g.S.SiteStore.refused c.begin.new.self) (uncounted g.D.DeskStore.refused g.S.SiteStore.refused c.begin.ensures.uncalled)) (c.deliver_all.ensures.blames clean (c.begin.ensures.leaves.sound (c.deliver_all.ensures.leaves.clean clean) sound))

pub returns-in-Err-clause-leaves : goal.returns-in-Err-clause-leaves
returns-in-Err-clause-leaves g c = record {
  clean = search rules;
  sound = search rules;
  counts = none_fewer (counts g.D.DeskStore.refused g.S.SiteStore.refused c.args.machines.now) (counts g.D.DeskStore.refused g.S.SiteStore.refused c.begin.new.self) (uncounted g.D.DeskStore.refused g.S.SiteStore.refused c.begin.ensures.uncalled);
  catalogs = ends_alike c.begin.ensures.leaves.catalog c.begin.ensures.leaves.later;
}

pub returns-in-Ok-clause-lists : goal.returns-in-Ok-clause-lists
returns-in-Ok-clause-lists g c = λ txn.
    lists_counted g.D.DeskStore.is_clean g.S.SiteStore.is_clean g.D.DeskStore.is_sound g.S.SiteStore.is_sound g.D.DeskStore.kept g.S.SiteStore.kept g.D.DeskStore.refused g.S.SiteStore.refused c.args.machines.now c.deliver_all.new.machines c.deliver_all.result (λ db. (λ done moves. IsOne (λ heard. Begins txn heard.items) call.Begin done moves × IfOk done (λ heard. heard.items ≢ [])))
    (λ db whole past listed stands clean sound served.
    let hold = held g.D.DeskStore.kept g.S.SiteStore.kept in
    let made = c.in-Ok.ensures.lists db listed.base.of_catalogue stands served.fit in
    let waits = begun_waits db whole listed (hold c.args.machines.now) (hold c.begin.new.self) c.in-Ok.out.letters c.in-Ok.out.replies past served made.0 in
    let came = all_goes db whole _ listed (λ heard. heard.items) (hold c.begin.new.self) (hold c.deliver_all.new.machines) c.in-Ok.out (past ++ made.0.leads.deeds) c.deliver_all.result waits
    (c.deliver_all.ensures.comes db listed made.1 clean (c.begin.ensures.leaves.sound (c.deliver_all.ensures.leaves.clean clean) sound) waits.fit) (c.deliver_all.ensures.lists db whole (past ++ made.0.leads.deeds) listed made.1 clean (c.begin.ensures.leaves.sound (c.deliver_all.ensures.leaves.clean clean) sound) waits) in
    begin_makes db whole (λ heard. Begins txn heard.items) (λ heard. heard.items) (hold c.args.machines.now) (hold c.begin.new.self) (hold c.deliver_all.new.machines) c.in-Ok.out past c.deliver_all.result (λ heard. refl) made.0 c.deliver_all.ensures.own came)

pub returns-in-Err-clause-lists : goal.returns-in-Err-clause-lists
returns-in-Err-clause-lists g c = λ txn. unbegun_lists g.D.DeskStore.is_clean g.S.SiteStore.is_clean g.D.DeskStore.is_sound g.S.SiteStore.is_sound g.D.DeskStore.kept g.S.SiteStore.kept g.D.DeskStore.refused g.S.SiteStore.refused (λ (heard : Vec Notice). Begins txn heard.items) (λ (heard : Vec Notice). heard.items) c.in-Err.refusal c.args.machines.now c.begin.new.self (λ db listed stands fit. c.in-Err.ensures.full db (over_of db c.args.machines.now.desk.volatile.version c.args.machines.now.desk.catalog listed.base.of_catalogue stands.here) fit.desk) c.in-Err.ensures.err c.begin.ensures.leaves.catalog c.begin.ensures.leaves.later
