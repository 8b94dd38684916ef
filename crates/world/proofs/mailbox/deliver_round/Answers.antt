-- Why `deliver_round` meets its contract.
use Rattle.std.proofs.Common.{rules, ◌≡◌, ◌+◌, ◌++◌, ◌-◌, ℕ, suc, length, refl, subst, arith}
use Rattle.world.specs.Contents.{counted, held}
use Rattle.world.proofs.ListDelivering.{goes_then, on_then, only_fails}
use Rattle.world.proofs.ListDelivering.{nothing_goes as nothing_goes_list}
use Rattle.world.specs.Taking.{IsInRound, scene}
use Rattle.world.proofs.InForce.{in_force_on}
use Rattle.world.proofs.Leaves.{ends_last, ends_same, ends_then}
use Rattle.world.proofs.Deliveries.{all_in_round, nothing_goes, then_breaks, then_goes}
use Rattle.world.proofs.SiteSteps.{on_any_err}
use Rattle.world.proofs.Counting.{no_fewer, no_fewer_then}
use Rattle.world.proofs.Stops.{stops_since, told_on}
use Rattle.world.specs.Counted.{counts}
use Rattle.world.proofs.ListComings.{nothing_comes, then_comes}
use Rattle.world.proofs.mailbox.deliver_round.Goals as goal

pub loop-init : goal.loop-init
loop-init g c =
    let here = scene (counted g.D.DeskStore.kept g.S.SiteStore.kept g.D.DeskStore.refused g.S.SiteStore.refused c.args.machines.now) c.args.post.now in
    let count : c.len-end.result - 0 ≡ length c.args.post.now.waiting.items = omega (arith, c.len-end.ensures, c.args.post.now.waiting.ok.0) in
    record {
      clean = λ x. x;
      sound = λ x s. s;
      catalogs = ends_same refl;
      counts = no_fewer (counts g.D.DeskStore.refused g.S.SiteStore.refused c.args.machines.now);
      goes = λ db of is clean sound fit. nothing_goes db here fit;
      ranks = λ db n of is clean sound fit ranks. all_in_round db n (c.len-end.result - 0) here count ranks;
      comes = λ db listed stands clean sound fits. (nothing_comes db (scene (held g.D.DeskStore.kept g.S.SiteStore.kept c.args.machines.now) c.args.post.now) fits, stands);
      ranks_lists = λ db listed stands clean sound fits n ranks. all_in_round db n (c.len-end.result - 0) (scene (held g.D.DeskStore.kept g.S.SiteStore.kept c.args.machines.now) c.args.post.now) count ranks;
      lists = λ db whole past listed stands clean sound waits. (nothing_goes_list db whole (held g.D.DeskStore.kept g.S.SiteStore.kept c.args.machines.now) c.args.post.now.waiting.items past c.args.post.now.heard.items waits, stands);
    }

pub loop-preserved : goal.loop-preserved
loop-preserved g c =
    let first = scene (counted g.D.DeskStore.kept g.S.SiteStore.kept g.D.DeskStore.refused g.S.SiteStore.refused c.args.machines.now) c.args.post.now in
    let here = scene (counted g.D.DeskStore.kept g.S.SiteStore.kept g.D.DeskStore.refused g.S.SiteStore.refused c.loop.machines) c.loop.post in
    let there = scene (counted g.D.DeskStore.kept g.S.SiteStore.kept g.D.DeskStore.refused g.S.SiteStore.refused c.deliver_next.new.machines) c.deliver_next.new.post in
    let one_less : c.len-end.result - c.loop.counter ≡ suc (c.len-end.result - (c.loop.counter + 1)) = omega (arith, c.loop-test.true) in
    record {
      clean = λ x. c.loop.invariant.clean (c.deliver_next.ensures.leaves.clean x);
      sound = λ x s. c.deliver_next.ensures.leaves.sound x (c.loop.invariant.sound (c.deliver_next.ensures.leaves.clean x) s);
      catalogs = ends_then c.loop.invariant.catalogs c.deliver_next.ensures.leaves.catalogs;
      counts = no_fewer_then (counts g.D.DeskStore.refused g.S.SiteStore.refused c.args.machines.now) (counts g.D.DeskStore.refused g.S.SiteStore.refused c.loop.machines) (counts g.D.DeskStore.refused g.S.SiteStore.refused c.deliver_next.new.machines) c.loop.invariant.counts c.deliver_next.ensures.leaves.counts;
      goes = λ db of is clean sound fit.
          let so_far = c.loop.invariant.goes db of is (c.deliver_next.ensures.leaves.clean clean) sound fit in
          then_goes db (λ w. w) first here so_far there (c.in_ok-deliver_next.ensures.ok db of (in_force_on db _ _ _ _ so_far.version (ends_last c.loop.invariant.catalogs fit.single).0 is) clean (c.loop.invariant.sound (c.deliver_next.ensures.leaves.clean clean) sound) so_far.fit);
      ranks = λ db n of is clean sound fit ranks.
          let so_far = c.loop.invariant.goes db of is (c.deliver_next.ensures.leaves.clean clean) sound fit in
          let ranked = c.loop.invariant.ranks db n of is (c.deliver_next.ensures.leaves.clean clean) sound fit ranks in
          c.in_ok-deliver_next.ensures.ranks db n (c.len-end.result - (c.loop.counter + 1)) of (in_force_on db _ _ _ _ so_far.version (ends_last c.loop.invariant.catalogs fit.single).0 is) clean (c.loop.invariant.sound (c.deliver_next.ensures.leaves.clean clean) sound) so_far.fit
          (subst (λ (k : ℕ). IsInRound db n k here) one_less ranked);
      comes = λ db listed stands clean sound fits.
          let hold = held g.D.DeskStore.kept g.S.SiteStore.kept in
          let so_far = c.loop.invariant.comes db listed stands (c.deliver_next.ensures.leaves.clean clean) sound fits in
          let more = c.in_ok-deliver_next.ensures.comes db listed so_far.1 clean (c.loop.invariant.sound (c.deliver_next.ensures.leaves.clean clean) sound) so_far.0.fit in
          (then_comes db (scene (hold c.args.machines.now) c.args.post.now) (scene (hold c.loop.machines) c.loop.post) (scene (hold c.deliver_next.new.machines) c.deliver_next.new.post) so_far.0 more.0, more.1);
      ranks_lists = λ db listed stands clean sound fits n ranks.
          let so_far = c.loop.invariant.comes db listed stands (c.deliver_next.ensures.leaves.clean clean) sound fits in
          let ranked = c.loop.invariant.ranks_lists db listed stands (c.deliver_next.ensures.leaves.clean clean) sound fits n ranks in
          c.in_ok-deliver_next.ensures.ranks_lists db listed so_far.1 clean (c.loop.invariant.sound (c.deliver_next.ensures.leaves.clean clean) sound) so_far.0.fit n (c.len-end.result - (c.loop.counter + 1))
          (subst (λ (k : ℕ). IsInRound db n k (scene (held g.D.DeskStore.kept g.S.SiteStore.kept c.loop.machines) c.loop.post)) one_less ranked);
      lists = λ db whole past listed stands clean sound waits.
          let hold = held g.D.DeskStore.kept g.S.SiteStore.kept in
          let so_far = c.loop.invariant.lists db whole past listed stands (c.deliver_next.ensures.leaves.clean clean) sound waits in
          let more = c.in_ok-deliver_next.ensures.lists db whole (past ++ so_far.0.deeds) listed so_far.1 clean (c.loop.invariant.sound (c.deliver_next.ensures.leaves.clean clean) sound) so_far.0.served in
          (goes_then db whole (hold c.loop.machines) (hold c.deliver_next.new.machines) c.loop.post.waiting.items c.deliver_next.new.post.waiting.items past c.args.post.now.heard.items c.loop.post.heard.items c.deliver_next.new.post.heard.items so_far.0 more.0, more.2);
    }

pub returns-clause-ranks : goal.returns-clause-ranks
returns-clause-ranks g c = λ db n of is clean sound fit ranks.
    let here = scene (counted g.D.DeskStore.kept g.S.SiteStore.kept g.D.DeskStore.refused g.S.SiteStore.refused c.loop.machines) c.loop.post in
    let over : c.len-end.result - c.loop.counter ≡ 0 = omega (arith, c.loop-test.false) in
    subst (λ (k : ℕ). IsInRound db n k here) over (c.loop.invariant.ranks db n of is clean sound fit ranks)

pub returns-in_err-deliver_next-clause-err : goal.returns-in_err-deliver_next-clause-err
returns-in_err-deliver_next-clause-err g c = λ db of is clean sound fit.
    let first = scene (counted g.D.DeskStore.kept g.S.SiteStore.kept g.D.DeskStore.refused g.S.SiteStore.refused c.args.machines.now) c.args.post.now in
    let here = scene (counted g.D.DeskStore.kept g.S.SiteStore.kept g.D.DeskStore.refused g.S.SiteStore.refused c.loop.machines) c.loop.post in
    let so_far = c.loop.invariant.goes db of is (c.deliver_next.ensures.leaves.clean clean) sound fit in
    on_any_err c.from_residual.result (then_breaks db (λ w. w) first here so_far (counted g.D.DeskStore.kept g.S.SiteStore.kept g.D.DeskStore.refused g.S.SiteStore.refused c.deliver_next.new.machines)
    (c.in_err-deliver_next.ensures.err db of (in_force_on db _ _ _ _ so_far.version (ends_last c.loop.invariant.catalogs fit.single).0 is) clean (c.loop.invariant.sound (c.deliver_next.ensures.leaves.clean clean) sound) so_far.fit))

pub returns-in_err-deliver_next-clause-leaves : goal.returns-in_err-deliver_next-clause-leaves
returns-in_err-deliver_next-clause-leaves g c = record {
  clean = search rules;
  sound = search rules;
  counts = no_fewer_then (counts g.D.DeskStore.refused g.S.SiteStore.refused c.args.machines.now) (counts g.D.DeskStore.refused g.S.SiteStore.refused c.loop.machines) (counts g.D.DeskStore.refused g.S.SiteStore.refused c.deliver_next.new.machines) c.loop.invariant.counts c.deliver_next.ensures.leaves.counts;
  catalogs = ends_then c.loop.invariant.catalogs c.deliver_next.ensures.leaves.catalogs;
}

pub returns-in_err-deliver_next-clause-blames : goal.returns-in_err-deliver_next-clause-blames
returns-in_err-deliver_next-clause-blames g c = λ clean sound.
    told_on c.from_residual.result c.in_err-deliver_next.field-0.0 (counts g.D.DeskStore.refused g.S.SiteStore.refused c.args.machines.now) (counts g.D.DeskStore.refused g.S.SiteStore.refused c.deliver_next.new.machines) c.from_residual.ensures.1
    (stops_since (counts g.D.DeskStore.refused g.S.SiteStore.refused c.args.machines.now) (counts g.D.DeskStore.refused g.S.SiteStore.refused c.loop.machines) (counts g.D.DeskStore.refused g.S.SiteStore.refused c.deliver_next.new.machines) c.loop.invariant.counts c.in_err-deliver_next.field-0.0 (c.in_err-deliver_next.ensures.blames clean (c.loop.invariant.sound (c.deliver_next.ensures.leaves.clean clean) sound)))

pub returns-clause-lists : goal.returns-clause-lists
returns-clause-lists g c = λ db whole past listed stands clean sound waits.
    let so_far = c.loop.invariant.lists db whole past listed stands clean sound waits in
    (so_far.0, tt, so_far.1)

pub returns-in_err-deliver_next-clause-lists : goal.returns-in_err-deliver_next-clause-lists
returns-in_err-deliver_next-clause-lists g c = λ db whole past listed stands clean sound waits.
    let so_far = c.loop.invariant.lists db whole past listed stands (c.deliver_next.ensures.leaves.clean clean) sound waits in
    let more = c.in_err-deliver_next.ensures.lists db whole (past ++ so_far.0.deeds) listed so_far.1 clean (c.loop.invariant.sound (c.deliver_next.ensures.leaves.clean clean) sound) so_far.0.served in
    only_fails _ _ c.from_residual.result c.from_residual.ensures.1 (on_then db whole (held g.D.DeskStore.kept g.S.SiteStore.kept c.deliver_next.new.machines) past so_far.0.deeds more.1) more.2

-- each letter for its reason, over lists
pub returns-clause-comes : goal.returns-clause-comes
returns-clause-comes g c = λ db listed stands clean sound fits. c.loop.invariant.comes db listed stands clean sound fits

pub returns-clause-ranks_lists : goal.returns-clause-ranks_lists
returns-clause-ranks_lists g c = λ db listed stands clean sound fits n ranks.
    let over : c.len-end.result - c.loop.counter ≡ 0 = omega (arith, c.loop-test.false) in
    subst (λ (k : ℕ). IsInRound db n k (scene (held g.D.DeskStore.kept g.S.SiteStore.kept c.loop.machines) c.loop.post)) over (c.loop.invariant.ranks_lists db listed stands clean sound fits n ranks)
