-- Why `announce` meets its contract.
use Rattle.std.proofs.Common.{◌≡◌, ◌≢◌, ◌∷◌, ◌++◌, [], IfOk}
use Rattle.std.specs.Global.{Vec}
use Rattle.desk.specs.declared.reply.Notice.{Notice}
use Rattle.world.specs.Commands.{heard_in}
use Rattle.world.specs.Contents.{held}
use Rattle.world.specs.Counted.{counts}
use Rattle.world.specs.Course.{Refragments}
use Rattle.world.proofs.ListCalls.{lists_counted, moved_makes, unmoved_lists}
use Rattle.world.proofs.ListDelivering.{moved_waits}
use Rattle.world.proofs.ListVain.{all_goes}
use Rattle.world.proofs.Leaves.{leaves_into, leaves_so}
use Rattle.world.proofs.Stops.{call_since}
use Rattle.world.proofs.NoNext.{err_as, never_next}
use Rattle.desk.specs.declared.refusal.Refusal.TheVariants.{NoNext}
use Rattle.world.proofs.refragmentation.announce.Goals as goal

pub returns-in-Ok-clause-leaves : goal.returns-in-Ok-clause-leaves
returns-in-Ok-clause-leaves g c = leaves_into g.D.DeskStore.is_clean g.S.SiteStore.is_clean g.D.DeskStore.is_sound g.S.SiteStore.is_sound g.D.DeskStore.refused g.S.SiteStore.refused c.args.machines.now c.refragment.new.self c.deliver_all.new.machines c.refragment.ensures.leaves c.deliver_all.ensures.leaves

pub returns-in-Ok-clause-blames : goal.returns-in-Ok-clause-blames
returns-in-Ok-clause-blames g c = λ clean sound. call_since c.deliver_all.result (counts g.D.DeskStore.refused g.S.SiteStore.refused c.args.machines.now) (counts g.D.DeskStore.refused g.S.SiteStore.refused c.refragment.new.self) (counts g.D.DeskStore.refused g.S.SiteStore.refused c.deliver_all.new.machines)
    c.refragment.ensures.leaves.counts (c.deliver_all.ensures.blames clean (c.refragment.ensures.leaves.sound (c.deliver_all.ensures.leaves.clean clean) sound))

pub returns-in-Err-clause-leaves : goal.returns-in-Err-clause-leaves
returns-in-Err-clause-leaves g c = leaves_so g.D.DeskStore.is_clean g.S.SiteStore.is_clean g.D.DeskStore.is_sound g.S.SiteStore.is_sound g.D.DeskStore.refused g.S.SiteStore.refused c.args.machines.now c.refragment.new.self c.refragment.ensures.leaves

pub returns-in-Ok-clause-lists : goal.returns-in-Ok-clause-lists
returns-in-Ok-clause-lists g c =
    lists_counted g.D.DeskStore.is_clean g.S.SiteStore.is_clean g.D.DeskStore.is_sound g.S.SiteStore.is_sound g.D.DeskStore.kept g.S.SiteStore.kept g.D.DeskStore.refused g.S.SiteStore.refused c.args.machines.now c.deliver_all.new.machines c.deliver_all.result (λ db. (λ done moves. (moves ≡ Refragments c.args.text.now (heard_in (λ heard. heard.items) done) ∷ []) × IfOk done (λ heard. heard.items ≢ [])))
    (λ db whole past listed stands clean sound served.
    let hold = held g.D.DeskStore.kept g.S.SiteStore.kept in
    let made = c.in-Ok.ensures.lists db listed.base.of_catalogue stands served.fit in
    let waits = moved_waits db whole listed c.args.text.now (hold c.args.machines.now) (hold c.refragment.new.self) c.in-Ok.out.letters c.in-Ok.out.replies past served made.0 in
    let came = all_goes db whole _ listed (λ heard. heard.items) (hold c.refragment.new.self) (hold c.deliver_all.new.machines) c.in-Ok.out (past ++ made.0.leads.deeds) c.deliver_all.result waits
    (c.deliver_all.ensures.comes db listed made.1 clean (c.refragment.ensures.leaves.sound (c.deliver_all.ensures.leaves.clean clean) sound) waits.fit) (c.deliver_all.ensures.lists db whole (past ++ made.0.leads.deeds) listed made.1 clean (c.refragment.ensures.leaves.sound (c.deliver_all.ensures.leaves.clean clean) sound) waits) in
    moved_makes db whole c.args.text.now (λ heard. heard.items) (hold c.args.machines.now) (hold c.refragment.new.self) (hold c.deliver_all.new.machines) c.in-Ok.out past c.deliver_all.result made.0 c.deliver_all.ensures.own came)

pub returns-in-Err-clause-lists : goal.returns-in-Err-clause-lists
returns-in-Err-clause-lists g c = unmoved_lists g.D.DeskStore.is_clean g.S.SiteStore.is_clean g.D.DeskStore.is_sound g.S.SiteStore.is_sound g.D.DeskStore.kept g.S.SiteStore.kept g.D.DeskStore.refused g.S.SiteStore.refused c.args.text.now (λ (heard : Vec Notice). heard.items) c.in-Err.refusal c.args.machines.now c.refragment.new.self (λ db listed stands fit. c.in-Err.ensures.told db listed.base.of_catalogue stands.here fit.desk) c.in-Err.ensures.err c.refragment.ensures.leaves.catalog c.refragment.ensures.leaves.later

pub returns-in-Ok-clause-finds_none : goal.returns-in-Ok-clause-finds_none
returns-in-Ok-clause-finds_none g c = λ none. never_next c.deliver_all.result c.deliver_all.ensures.own none

pub returns-in-Err-clause-finds_none : goal.returns-in-Err-clause-finds_none
returns-in-Err-clause-finds_none g c = λ none. c.in-Err.ensures.finds_none (err_as c.in-Err.refusal NoNext none)
