-- Why `World::run` meets its contract.
use Rattle.std.proofs.Common.{◌≡◌, ◌∙◌, ◌+◌, ◌++◌, ◌∷◌, [], refl, sym, ap, subst, List, ℕ, take}
use Rattle.std.proofs.lemmas.List.{take_all, take_more}
use Rattle.world.specs.declared.event.Entry.{Entry}
use Rattle.world.specs.declared.event.Event.{Event}
use Rattle.world.specs.Following.{Follows, FollowsAtLeast}
use Rattle.world.specs.Contents.{counted, held}
use Rattle.world.specs.Machines.{Machines}
use Rattle.world.specs.Runs.{RunsOn}
use Rattle.world.proofs.Listing.{stands_as}
use Rattle.world.proofs.Counting.{with_counts}
use Rattle.world.proofs.RunGoesOn.{follows_more, runs_further, runs_still}
use Rattle.world.proofs.Leaves.{database_still, leaves_then}
use Rattle.world.proofs.world.World.run.Goals as goal

pub loop-event-init : goal.loop-event-init
loop-event-init g c =
    let machines = held g.D.DeskStore.kept g.S.SiteStore.kept c.args.self.now.machines in
    (database_still g.D.DeskStore.is_clean g.S.SiteStore.is_clean g.D.DeskStore.is_sound g.S.SiteStore.is_sound g.D.DeskStore.refused g.S.SiteStore.refused c.args.self.now.machines, refl, λ list whole past listed stands clean sound run. (runs_still list whole machines c.args.self.now.entries.items past run, stands, (refl, refl)))

pub loop-event-preserved : goal.loop-event-preserved
loop-event-preserved g c =
    let D = g.D.DeskStore in
    let S = g.S.SiteStore in
    let all = c.loop-event.invariant in
    let start = c.args.self.now in
    let mid = c.loop-event.self in
    let now = c.pass.new.self in
    let i = c.loop-event.event-index in
    let events = c.args.events.now in
    let what = c.event-item.result in
    let one_more : take (i + 1) events ≡ take i events ++ what ∷ [] = take_more events i what c.loop-event-test.true ∙ ap (λ (e : Event). take i events ++ e ∷ []) (sym c.event-item.is) in (
      leaves_then D.is_clean S.is_clean D.is_sound S.is_sound D.refused S.refused start.machines mid.machines now.machines all.0 c.in-Ok.ensures.leaves,
      ap (λ n. n + 1) all.1,
      λ list whole past listed stands clean sound run.
          let clean_mid = c.in-Ok.ensures.leaves.clean clean in
          let so = all.2 list whole past listed stands clean_mid sound run in
          let sound_mid = all.0.sound clean_mid sound in
          let first = counted D.kept S.kept D.refused S.refused start.machines in
          let last = counted D.kept S.kept D.refused S.refused now.machines in
          let next = c.in-Ok.ensures.runs list whole (past ++ so.0.deeds) listed so.1 clean sound_mid so.0.run_on in
          let further = follows_more list (take i events) what first (counted D.kept S.kept D.refused S.refused mid.machines) last start.entries.items mid.entries.items now.entries.items so.2 (c.in-Ok.ensures.happens list listed so.1 clean sound_mid so.0.run_on.fit) in (
            runs_further list whole (held D.kept S.kept mid.machines) (held D.kept S.kept now.machines) mid.entries.items now.entries.items past so.0 next.0,
            next.1,
            subst (λ es. Follows list es first start.entries.items last now.entries.items) (sym one_more) further,
          ),
    )

pub returns-in-Err-clause-leaves : goal.returns-in-Err-clause-leaves
returns-in-Err-clause-leaves g c = leaves_then g.D.DeskStore.is_clean g.S.SiteStore.is_clean g.D.DeskStore.is_sound g.S.SiteStore.is_sound g.D.DeskStore.refused g.S.SiteStore.refused c.args.self.now.machines c.loop-event.self.machines c.pass.new.self.machines c.loop-event.invariant.0 c.in-Err.ensures.leaves

pub returns-clause-runs : goal.returns-clause-runs
returns-clause-runs g c = λ list whole past listed stands clean sound run.
    let so = c.loop-event.invariant.2 list whole past listed stands clean sound run in
    (so.0, so.1)

pub returns-clause-all : goal.returns-clause-all
returns-clause-all g c = λ list whole past listed stands clean sound run.
    let D = g.D.DeskStore in
    let S = g.S.SiteStore in
    let start = c.args.self.now in
    let mid = c.loop-event.self in
    let events = c.args.events.now in
    subst (λ (es : List Event). Follows list es (counted D.kept S.kept D.refused S.refused start.machines) start.entries.items (counted D.kept S.kept D.refused S.refused mid.machines) mid.entries.items) (take_all c.loop-event.event-index events c.loop-event-test.false) (c.loop-event.invariant.2 list whole past listed stands clean sound run).2

pub returns-in-Err-clause-some : goal.returns-in-Err-clause-some
returns-in-Err-clause-some g c = λ list whole past listed stands clean sound run.
    let D = g.D.DeskStore in
    let S = g.S.SiteStore in
    let all = c.loop-event.invariant in
    let start = c.args.self.now in
    let mid = c.loop-event.self in
    let now = c.pass.new.self in
    let events = c.args.events.now in
    let first = counted D.kept S.kept D.refused S.refused start.machines in
    let there = counted D.kept S.kept D.refused S.refused mid.machines in
    let last = counted D.kept S.kept D.refused S.refused now.machines in
    let clean_mid = c.in-Err.ensures.leaves.clean clean in
    let so = all.2 list whole past listed stands clean_mid sound run in
    let follows = subst (λ (es : List Entry). Follows list (take c.loop-event.event-index events) first start.entries.items there es) (sym c.in-Err.ensures.same) so.2 in
    subst (λ (n : ℕ). FollowsAtLeast list (take n events) first start.entries.items last now.entries.items) (sym all.1) (record {
      there = there;
      follows = follows;
      same = ap (λ (m : Machines). with_counts m there.refused) (c.in-Err.ensures.err clean (all.0.sound clean_mid sound));
      counts = c.in-Err.ensures.leaves.counts;
    })

pub returns-in-Err-clause-runs : goal.returns-in-Err-clause-runs
returns-in-Err-clause-runs g c = λ list whole past listed stands clean sound run.
    let D = g.D.DeskStore in
    let S = g.S.SiteStore in
    let all = c.loop-event.invariant in
    let mid = c.loop-event.self in
    let now = c.pass.new.self in
    let clean_mid = c.in-Err.ensures.leaves.clean clean in
    let so = all.2 list whole past listed stands clean_mid sound run in
    let stays = c.in-Err.ensures.stays in (
      subst (λ (m : Machines). RunsOn list whole m now.entries.items past) (sym (c.in-Err.ensures.err clean (all.0.sound clean_mid sound))) (subst (λ (es : List Entry). RunsOn list whole (held D.kept S.kept mid.machines) es past) (sym c.in-Err.ensures.same) so.0),
      stands_as list mid.machines.desk now.machines.desk stays.version stays.catalog stays.later so.1,
    )
