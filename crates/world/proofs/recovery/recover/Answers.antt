-- Why `recover` meets its contract.
use Rattle.std.proofs.Common.{◌++◌, List, [], true, sym, ◌∙◌, subst, map, refl}
use Rattle.store.specs.declared.letter.Letter.{Letter}
use Rattle.world.specs.ListServed.{IsListWaiting}
use Rattle.world.proofs.Listing.{stands_as}
use Rattle.world.proofs.ListCalls.{served_without}
use Rattle.world.proofs.ListDelivering.{let_go, list_reached, on_then, waits_same}
use Rattle.world.proofs.ListSolo.{goes_on, inquired_waits, list_recovery, on_with, recovers_with, restarted_waits, served_still}
use Rattle.std.specs.List.{AllByRecursion, flat_map}
use Rattle.protocol.specs.Letters.{letter_of}
use Rattle.protocol.specs.Site.{inquiries}
use Rattle.protocol.specs.World.{desk_restarts}
use Rattle.site.specs.State.{state_of}
use Rattle.world.specs.Contents.{counted, held}
use Rattle.world.specs.Counted.{counts}
use Rattle.world.specs.Seated.{seats_in}
use Rattle.world.specs.Sites.{IsSeated}
use Rattle.world.specs.Taking.{put_out_by}
use Rattle.world.proofs.InForce.{in_force_on}
use Rattle.world.proofs.Counting.{fit_uncounted, leads_counted}
use Rattle.world.proofs.Leaves.{leaves_into, leaves_so}
use Rattle.world.proofs.Recovers.{list_recovers, recovers}
use Rattle.world.proofs.Running.{over_of}
use Rattle.world.proofs.recovery.recover.Goals as goal

pub returns-in_err-commits-clause-leaves : goal.returns-in_err-commits-clause-leaves
returns-in_err-commits-clause-leaves g c = leaves_so g.D.DeskStore.is_clean g.S.SiteStore.is_clean g.D.DeskStore.is_sound g.S.SiteStore.is_sound g.D.DeskStore.refused g.S.SiteStore.refused c.args.machines.now c.restart.new.self c.restart.ensures.leaves

pub returns-in_err-inquire_all-clause-leaves : goal.returns-in_err-inquire_all-clause-leaves
returns-in_err-inquire_all-clause-leaves g c = leaves_so g.D.DeskStore.is_clean g.S.SiteStore.is_clean g.D.DeskStore.is_sound g.S.SiteStore.is_sound g.D.DeskStore.refused g.S.SiteStore.refused c.args.machines.now c.restart.new.self c.restart.ensures.leaves

pub returns-in_err-_heard-clause-leaves : goal.returns-in_err-_heard-clause-leaves
returns-in_err-_heard-clause-leaves g c =
    leaves_into g.D.DeskStore.is_clean g.S.SiteStore.is_clean g.D.DeskStore.is_sound g.S.SiteStore.is_sound g.D.DeskStore.refused g.S.SiteStore.refused c.args.machines.now c.restart.new.self c.deliver_all.new.machines c.restart.ensures.leaves c.deliver_all.ensures.leaves

pub returns-clause-leaves : goal.returns-clause-leaves
returns-clause-leaves g c =
    leaves_into g.D.DeskStore.is_clean g.S.SiteStore.is_clean g.D.DeskStore.is_sound g.S.SiteStore.is_sound g.D.DeskStore.refused g.S.SiteStore.refused c.args.machines.now c.restart.new.self c.deliver_all.new.machines c.restart.ensures.leaves c.deliver_all.ensures.leaves

pub returns-clause-ok : goal.returns-clause-ok
returns-clause-ok g c = λ db of is clean sound fit law recovery whole past up served.
    let before = held g.D.DeskStore.kept g.S.SiteStore.kept c.args.machines.now in
    let mid = held g.D.DeskStore.kept g.S.SiteStore.kept c.restart.new.self in
    let old = counts g.D.DeskStore.refused g.S.SiteStore.refused c.args.machines.now in
    let new = counts g.D.DeskStore.refused g.S.SiteStore.refused c.restart.new.self in
    let first = counted g.D.DeskStore.kept g.S.SiteStore.kept g.D.DeskStore.refused g.S.SiteStore.refused c.args.machines.now in
    let second = counted g.D.DeskStore.kept g.S.SiteStore.kept g.D.DeskStore.refused g.S.SiteStore.refused c.restart.new.self in
    let last = counted g.D.DeskStore.kept g.S.SiteStore.kept g.D.DeskStore.refused g.S.SiteStore.refused c.deliver_all.new.machines in
    let over = over_of db _ c.args.machines.now.desk.catalog of is in
    let clean_mid = c.deliver_all.ensures.leaves.clean clean in
    let leads = leads_counted db desk_restarts before mid old new c.in_ok-commits.commits.letters c.in_ok-commits.commits.replies (c.in_ok-commits.ensures.ok db over clean_mid sound (fit_uncounted db before old fit)) in
    let more = c.in_ok-inquire_all.ensures (subst (λ sites. AllByRecursion IsSeated (seats_in g.S.SiteStore.kept sites)) (sym c.as_slice.ensures.value) leads.fit.sites)
    ∙ (λ i. map letter_of (c.into_vec-letters.ensures i) ++ flat_map (λ seat. inquiries seat.name (state_of seat.kept seat.table)) (seats_in g.S.SiteStore.kept (c.as_slice.ensures.value i))) in
    let scene = put_out_by second (record { letters = c.new.result; replies = c.in_ok-commits.commits.replies; kept = true }) in
    recovers db law recovery over.distinct whole past first second last c.in_ok-commits.commits.letters c.inquire_all.new.letters.items c.in_ok-commits.commits.replies c.in_ok-_heard._heard.items scene served up leads more c.new.ensures (λ ls ds. refl) leads.fit
    (c.in_ok-_heard.ensures.ok db of (in_force_on db _ _ _ _ leads.version c.restart.ensures.leaves.catalog is) clean (c.restart.ensures.leaves.sound clean_mid sound) leads.fit)

-- over lists
pub returns-clause-lists : goal.returns-clause-lists
returns-clause-lists g c = λ db whole past listed stands clean sound served.
    let hold = held g.D.DeskStore.kept g.S.SiteStore.kept in
    let old = c.args.machines.now in
    let mid = c.restart.new.self in
    let served_here = served_without db whole (hold old) (counts g.D.DeskStore.refused g.S.SiteStore.refused old) past served in
    let clean_mid = c.deliver_all.ensures.leaves.clean clean in
    let led = c.in_ok-commits.ensures.lists db listed.base.of_catalogue stands clean_mid sound served_here.fit in
    let waits = restarted_waits db whole listed (hold old) (hold mid) c.in_ok-commits.commits.letters c.in_ok-commits.commits.replies past served_here led.0 in
    let over = over_of db old.desk.volatile.version old.desk.catalog listed.base.of_catalogue stands.here in
    let more = c.in_ok-inquire_all.ensures (subst (λ sites. AllByRecursion IsSeated (seats_in g.S.SiteStore.kept sites)) (sym c.as_slice.ensures.value) led.0.fit.sites)
    ∙ (λ i. map letter_of (c.into_vec-letters.ensures i) ++ flat_map (λ seat. inquiries seat.name (state_of seat.kept seat.table)) (seats_in g.S.SiteStore.kept (c.as_slice.ensures.value i))) in
    let asked = inquired_waits db whole listed over.distinct (hold mid) c.in_ok-commits.commits.letters c.inquire_all.new.letters.items (past ++ led.0.deeds) more waits in
    let out = subst (λ (ls : List Letter). IsListWaiting db whole (hold mid) ls (past ++ led.0.deeds)) (sym c.new.ensures) asked in
    let came = c.in_ok-_heard.ensures.lists db whole (past ++ led.0.deeds) listed led.1 clean (c.restart.ensures.leaves.sound clean_mid sound) out in
    (on_with db whole (hold c.deliver_all.new.machines) (counts g.D.DeskStore.refused g.S.SiteStore.refused c.deliver_all.new.machines) past (on_then db whole (hold c.deliver_all.new.machines) past led.0.deeds (goes_on db whole (hold c.deliver_all.new.machines) (past ++ led.0.deeds) c.in_ok-commits.commits.replies c.in_ok-_heard._heard.items came.0)), came.2)

pub returns-in_err-_heard-clause-lists : goal.returns-in_err-_heard-clause-lists
returns-in_err-_heard-clause-lists g c = λ db whole past listed stands clean sound served.
    let hold = held g.D.DeskStore.kept g.S.SiteStore.kept in
    let old = c.args.machines.now in
    let mid = c.restart.new.self in
    let served_here = served_without db whole (hold old) (counts g.D.DeskStore.refused g.S.SiteStore.refused old) past served in
    let clean_mid = c.deliver_all.ensures.leaves.clean clean in
    let led = c.in_ok-commits.ensures.lists db listed.base.of_catalogue stands clean_mid sound served_here.fit in
    let waits = restarted_waits db whole listed (hold old) (hold mid) c.in_ok-commits.commits.letters c.in_ok-commits.commits.replies past served_here led.0 in
    let over = over_of db old.desk.volatile.version old.desk.catalog listed.base.of_catalogue stands.here in
    let more = c.in_ok-inquire_all.ensures (subst (λ sites. AllByRecursion IsSeated (seats_in g.S.SiteStore.kept sites)) (sym c.as_slice.ensures.value) led.0.fit.sites)
    ∙ (λ i. map letter_of (c.into_vec-letters.ensures i) ++ flat_map (λ seat. inquiries seat.name (state_of seat.kept seat.table)) (seats_in g.S.SiteStore.kept (c.as_slice.ensures.value i))) in
    let asked = inquired_waits db whole listed over.distinct (hold mid) c.in_ok-commits.commits.letters c.inquire_all.new.letters.items (past ++ led.0.deeds) more waits in
    let out = subst (λ (ls : List Letter). IsListWaiting db whole (hold mid) ls (past ++ led.0.deeds)) (sym c.new.ensures) asked in
    let came = c.in_err-_heard.ensures.lists db whole (past ++ led.0.deeds) listed led.1 clean (c.restart.ensures.leaves.sound clean_mid sound) out in
    (on_with db whole (hold c.deliver_all.new.machines) (counts g.D.DeskStore.refused g.S.SiteStore.refused c.deliver_all.new.machines) past (on_then db whole (hold c.deliver_all.new.machines) past led.0.deeds came.1), came.2)

pub returns-in_err-inquire_all-clause-lists : goal.returns-in_err-inquire_all-clause-lists
returns-in_err-inquire_all-clause-lists g c = λ db whole past listed stands clean sound served.
    let hold = held g.D.DeskStore.kept g.S.SiteStore.kept in
    let old = c.args.machines.now in
    let mid = c.restart.new.self in
    let served_here = served_without db whole (hold old) (counts g.D.DeskStore.refused g.S.SiteStore.refused old) past served in
    let led = c.in_ok-commits.ensures.lists db listed.base.of_catalogue stands clean sound served_here.fit in
    let waits = restarted_waits db whole listed (hold old) (hold mid) c.in_ok-commits.commits.letters c.in_ok-commits.commits.replies past served_here led.0 in
    (on_with db whole (hold mid) (counts g.D.DeskStore.refused g.S.SiteStore.refused mid) past (on_then db whole (hold mid) past led.0.deeds (let_go db whole listed (hold mid) c.in_ok-commits.commits.letters (past ++ led.0.deeds) waits)), led.1)

pub returns-in_err-commits-clause-lists : goal.returns-in_err-commits-clause-lists
returns-in_err-commits-clause-lists g c = λ db whole past listed stands clean sound served.
    let hold = held g.D.DeskStore.kept g.S.SiteStore.kept in
    let old = c.args.machines.now in
    let mid = c.restart.new.self in
    let served_here = served_without db whole (hold old) (counts g.D.DeskStore.refused g.S.SiteStore.refused old) past served in
    let stays = c.in_err-commits.ensures.stays in (
      on_with db whole (hold mid) (counts g.D.DeskStore.refused g.S.SiteStore.refused mid) past (served_still db whole (hold mid) past (waits_same db whole (hold old) (hold mid) [] past (c.in_err-commits.ensures.err clean sound) served_here)),
      stands_as db old.desk mid.desk stays.version stays.catalog stays.later stands,
    )

-- and all is quiet
pub returns-clause-recovers : goal.returns-clause-recovers
returns-clause-recovers g c = λ db listed stands clean sound whole past up served.
    let hold = held g.D.DeskStore.kept g.S.SiteStore.kept in
    let old = c.args.machines.now in
    let mid = c.restart.new.self in
    let last = c.deliver_all.new.machines in
    let first = counted g.D.DeskStore.kept g.S.SiteStore.kept g.D.DeskStore.refused g.S.SiteStore.refused old in
    let served_here = served_without db whole (hold old) (counts g.D.DeskStore.refused g.S.SiteStore.refused old) past served in
    let clean_mid = c.deliver_all.ensures.leaves.clean clean in
    let led = c.in_ok-commits.ensures.lists db listed.base.of_catalogue stands clean_mid sound served_here.fit in
    let over = over_of db old.desk.volatile.version old.desk.catalog listed.base.of_catalogue stands.here in
    let more = c.in_ok-inquire_all.ensures (subst (λ sites. AllByRecursion IsSeated (seats_in g.S.SiteStore.kept sites)) (sym c.as_slice.ensures.value) led.0.fit.sites)
    ∙ (λ i. map letter_of (c.into_vec-letters.ensures i) ++ flat_map (λ seat. inquiries seat.name (state_of seat.kept seat.table)) (seats_in g.S.SiteStore.kept (c.as_slice.ensures.value i))) in
    let scene = put_out_by (hold mid) (record { letters = c.new.result; replies = c.in_ok-commits.commits.replies; kept = true }) in
    let came = c.in_ok-_heard.ensures.comes db listed led.1 clean (c.restart.ensures.leaves.sound clean_mid sound) led.0.fit in
    let so = list_recovers db (list_reached db listed) (list_recovery db listed) over.distinct whole past (hold old) (hold mid) (hold last) c.in_ok-commits.commits.letters c.inquire_all.new.letters.items c.in_ok-commits.commits.replies c.in_ok-_heard._heard.items scene served_here (record { desk = up.desk; sites = up.sites }) led.0 more c.new.ensures (λ ls ds. refl) led.0.fit came.0 in
    recovers_with db whole past (hold last) (counts g.D.DeskStore.refused g.S.SiteStore.refused last) so
