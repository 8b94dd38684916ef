-- Why `deliver_all` meets its contract.
use Rattle.std.proofs.Common.{rules, ◌≡◌, ◌==◌, ◌∙◌, ◌+◌, ◌++◌, ◌-◌, ◌≤◌, ℕ, List, [], ◌∷◌, length, true, suc, refl, sym, subst, arith}
use Rattle.protocol.specs.Rounds.{RanksUnder}
use Rattle.world.specs.Contents.{counted, held}
use Rattle.store.specs.declared.letter.Letter.{Letter}
use Rattle.desk.specs.declared.reply.Notice.{Notice}
use Rattle.world.specs.ListServed.{ListGoes}
use Rattle.world.proofs.ListDelivering.{goes_silent, goes_then, on_then, only_fails}
use Rattle.world.proofs.ListDelivering.{nothing_goes as nothing_goes_list}
use Rattle.world.specs.Taking.{put_out_by, scene, world_at}
use Rattle.world.proofs.InForce.{in_force_on}
use Rattle.world.proofs.Leaves.{ends_last, ends_same, ends_then}
use Rattle.world.proofs.Deliveries.{alike_goes, all_nine, goes_settled, none_left, then_breaks, then_goes}
use Rattle.world.proofs.SiteSteps.{on_any_err}
use Rattle.world.proofs.Counting.{no_fewer, no_fewer_then}
use Rattle.world.proofs.Stops.{stops_since, told_on}
use Rattle.world.specs.Counted.{counts}
use Rattle.world.proofs.ListComings.{alike_comes, comes_settled, then_comes}
use Rattle.world.proofs.mailbox.deliver_all.Goals.{else-loop-test, then-loop-test+then-is_empty}
use Rattle.world.proofs.mailbox.deliver_all.Goals as goal

-- none is left of a list of no length
none_of : {X : Type 0} (list : List X) → length list ≡ 0 → list ≡ []
none_of [] none = refl
none_of (x ∷ list) none = absurd (omega arith)

none_counted : {X : Type 0} (list : List X) (n : ℕ) → n ≡ length list → (n == 0) ≡ true → list ≡ []
none_counted list n is none =
    let length_is : length list ≡ 0 = grind (arith) in
    none_of list length_is

pub loop-init : goal.loop-init
loop-init g c =
    let m = counted g.D.DeskStore.kept g.S.SiteStore.kept g.D.DeskStore.refused g.S.SiteStore.refused c.args.machines.now in
    record {
      clean = λ x. x;
      sound = λ x s. s;
      catalogs = ends_same refl;
      counts = no_fewer (counts g.D.DeskStore.refused g.S.SiteStore.refused c.args.machines.now);
      goes = λ db of is clean sound fit. alike_goes db (put_out_by m c.args.out) (scene m c.of-post.result) refl c.of-post.ensures.waiting c.of-post.ensures.heard fit;
      ranks = λ db of is clean sound fit. all_nine db (scene m c.of-post.result);
      comes = λ db listed stands clean sound fits.
          let here = held g.D.DeskStore.kept g.S.SiteStore.kept c.args.machines.now in
          (alike_comes db (put_out_by here c.args.out) (scene here c.of-post.result) refl c.of-post.ensures.waiting c.of-post.ensures.heard fits, stands);
      ranks_lists = λ db listed stands clean sound fits. all_nine db (scene (held g.D.DeskStore.kept g.S.SiteStore.kept c.args.machines.now) c.of-post.result);
      lists = λ db whole past listed stands clean sound waits.
          let here = held g.D.DeskStore.kept g.S.SiteStore.kept c.args.machines.now in
          let out = c.args.out in (
            subst (λ (left : List Letter). ListGoes db whole here left past out.replies c.of-post.result.heard.items) (sym c.of-post.ensures.waiting)
                (subst (λ (heard : List Notice). ListGoes db whole here out.letters past out.replies heard) (sym c.of-post.ensures.heard) (nothing_goes_list db whole here out.letters past out.replies waits)),
            stands,
          );
    }

pub loop-preserved : goal.loop-preserved
loop-preserved g c =
    let first = put_out_by (counted g.D.DeskStore.kept g.S.SiteStore.kept g.D.DeskStore.refused g.S.SiteStore.refused c.args.machines.now) c.args.out in
    let here = scene (counted g.D.DeskStore.kept g.S.SiteStore.kept g.D.DeskStore.refused g.S.SiteStore.refused c.loop.machines) c.loop.post in
    let there = scene (counted g.D.DeskStore.kept g.S.SiteStore.kept g.D.DeskStore.refused g.S.SiteStore.refused c.deliver_round.new.machines) c.deliver_round.new.post in
    let one_less : 9 - c.loop.counter ≡ suc (8 - c.loop.counter) = omega (arith, c.loop-test.true) in
    let same : 8 - c.loop.counter ≡ 9 - (c.loop.counter + 1) = omega arith in
    record {
      clean = λ x. c.loop.invariant.clean (c.deliver_round.ensures.leaves.clean x);
      sound = λ x s. c.deliver_round.ensures.leaves.sound x (c.loop.invariant.sound (c.deliver_round.ensures.leaves.clean x) s);
      catalogs = ends_then c.loop.invariant.catalogs c.deliver_round.ensures.leaves.catalogs;
      counts = no_fewer_then (counts g.D.DeskStore.refused g.S.SiteStore.refused c.args.machines.now) (counts g.D.DeskStore.refused g.S.SiteStore.refused c.loop.machines) (counts g.D.DeskStore.refused g.S.SiteStore.refused c.deliver_round.new.machines) c.loop.invariant.counts c.deliver_round.ensures.leaves.counts;
      goes = λ db of is clean sound fit.
          let so_far = c.loop.invariant.goes db of is (c.deliver_round.ensures.leaves.clean clean) sound fit in
          then_goes db (λ w. w) first here so_far there (c.in_ok-deliver_round.ensures.ok db of (in_force_on db _ _ _ _ so_far.version (ends_last c.loop.invariant.catalogs fit.single).0 is) clean (c.loop.invariant.sound (c.deliver_round.ensures.leaves.clean clean) sound) so_far.fit);
      ranks = λ db of is clean sound fit.
          let so_far = c.loop.invariant.goes db of is (c.deliver_round.ensures.leaves.clean clean) sound fit in
          let ranked = c.loop.invariant.ranks db of is (c.deliver_round.ensures.leaves.clean clean) sound fit in
          subst (λ (k : ℕ). RanksUnder k (world_at db there)) same
          (c.in_ok-deliver_round.ensures.ranks db (8 - c.loop.counter) of (in_force_on db _ _ _ _ so_far.version (ends_last c.loop.invariant.catalogs fit.single).0 is) clean (c.loop.invariant.sound (c.deliver_round.ensures.leaves.clean clean) sound) so_far.fit
          (subst (λ (k : ℕ). RanksUnder k (world_at db here)) one_less ranked));
      comes = λ db listed stands clean sound fits.
          let hold = held g.D.DeskStore.kept g.S.SiteStore.kept in
          let so_far = c.loop.invariant.comes db listed stands (c.deliver_round.ensures.leaves.clean clean) sound fits in
          let more = c.in_ok-deliver_round.ensures.comes db listed so_far.1 clean (c.loop.invariant.sound (c.deliver_round.ensures.leaves.clean clean) sound) so_far.0.fit in
          (then_comes db (put_out_by (hold c.args.machines.now) c.args.out) (scene (hold c.loop.machines) c.loop.post) (scene (hold c.deliver_round.new.machines) c.deliver_round.new.post) so_far.0 more.0, more.1);
      ranks_lists = λ db listed stands clean sound fits.
          let hold = held g.D.DeskStore.kept g.S.SiteStore.kept in
          let so_far = c.loop.invariant.comes db listed stands (c.deliver_round.ensures.leaves.clean clean) sound fits in
          let ranked = c.loop.invariant.ranks_lists db listed stands (c.deliver_round.ensures.leaves.clean clean) sound fits in
          subst (λ (k : ℕ). RanksUnder k (world_at db (scene (hold c.deliver_round.new.machines) c.deliver_round.new.post))) same
          (c.in_ok-deliver_round.ensures.ranks_lists db listed so_far.1 clean (c.loop.invariant.sound (c.deliver_round.ensures.leaves.clean clean) sound) so_far.0.fit (8 - c.loop.counter)
          (subst (λ (k : ℕ). RanksUnder k (world_at db (scene (hold c.loop.machines) c.loop.post))) one_less ranked));
      lists = λ db whole past listed stands clean sound waits.
          let hold = held g.D.DeskStore.kept g.S.SiteStore.kept in
          let so_far = c.loop.invariant.lists db whole past listed stands (c.deliver_round.ensures.leaves.clean clean) sound waits in
          let more = c.in_ok-deliver_round.ensures.lists db whole (past ++ so_far.0.deeds) listed so_far.1 clean (c.loop.invariant.sound (c.deliver_round.ensures.leaves.clean clean) sound) so_far.0.served in
          (goes_then db whole (hold c.loop.machines) (hold c.deliver_round.new.machines) c.loop.post.waiting.items c.deliver_round.new.post.waiting.items past c.args.out.replies c.loop.post.heard.items c.deliver_round.new.post.heard.items so_far.0 more.0, more.2);
    }

pub returns-clause-ok : goal.returns-clause-ok
returns-clause-ok g c = λ db of is clean sound fit.
    let first = put_out_by (counted g.D.DeskStore.kept g.S.SiteStore.kept g.D.DeskStore.refused g.S.SiteStore.refused c.args.machines.now) c.args.out in
    let here = scene (counted g.D.DeskStore.kept g.S.SiteStore.kept g.D.DeskStore.refused g.S.SiteStore.refused c.loop.machines) c.loop.post in
    let over : 9 ≤ c.loop.counter → 9 - c.loop.counter ≡ 0 = λ end. omega (arith, end) in
    let none : here.waiting ≡ [] = elim c.loop-test.branch [
      | else-loop-test w ↦ none_left db here (subst (λ (k : ℕ). RanksUnder k (world_at db here)) (over w.loop-test.false) (c.loop.invariant.ranks db of is clean sound fit))
      | then-loop-test+then-is_empty w ↦ none_counted c.loop.post.waiting.items c.loop.post.waiting.len c.loop.post.waiting.ok.0 (sym w.is_empty.ensures ∙ w.if-is_empty.true)
    ] in
    goes_settled db (λ w. w) first here (c.loop.invariant.goes db of is clean sound fit) none

pub returns-in_err-deliver_round-clause-err : goal.returns-in_err-deliver_round-clause-err
returns-in_err-deliver_round-clause-err g c = λ db of is clean sound fit.
    let first = put_out_by (counted g.D.DeskStore.kept g.S.SiteStore.kept g.D.DeskStore.refused g.S.SiteStore.refused c.args.machines.now) c.args.out in
    let here = scene (counted g.D.DeskStore.kept g.S.SiteStore.kept g.D.DeskStore.refused g.S.SiteStore.refused c.loop.machines) c.loop.post in
    let so_far = c.loop.invariant.goes db of is (c.deliver_round.ensures.leaves.clean clean) sound fit in
    on_any_err c.from_residual.result (then_breaks db (λ w. w) first here so_far (counted g.D.DeskStore.kept g.S.SiteStore.kept g.D.DeskStore.refused g.S.SiteStore.refused c.deliver_round.new.machines)
    (c.in_err-deliver_round.ensures.err db of (in_force_on db _ _ _ _ so_far.version (ends_last c.loop.invariant.catalogs fit.single).0 is) clean (c.loop.invariant.sound (c.deliver_round.ensures.leaves.clean clean) sound) so_far.fit))

pub returns-in_err-deliver_round-clause-leaves : goal.returns-in_err-deliver_round-clause-leaves
returns-in_err-deliver_round-clause-leaves g c = record {
  clean = search rules;
  sound = search rules;
  counts = no_fewer_then (counts g.D.DeskStore.refused g.S.SiteStore.refused c.args.machines.now) (counts g.D.DeskStore.refused g.S.SiteStore.refused c.loop.machines) (counts g.D.DeskStore.refused g.S.SiteStore.refused c.deliver_round.new.machines) c.loop.invariant.counts c.deliver_round.ensures.leaves.counts;
  catalogs = ends_then c.loop.invariant.catalogs c.deliver_round.ensures.leaves.catalogs;
}

pub returns-in_err-deliver_round-clause-blames : goal.returns-in_err-deliver_round-clause-blames
returns-in_err-deliver_round-clause-blames g c = λ clean sound.
    told_on c.from_residual.result c.in_err-deliver_round.field-0.0 (counts g.D.DeskStore.refused g.S.SiteStore.refused c.args.machines.now) (counts g.D.DeskStore.refused g.S.SiteStore.refused c.deliver_round.new.machines) c.from_residual.ensures.1
    (stops_since (counts g.D.DeskStore.refused g.S.SiteStore.refused c.args.machines.now) (counts g.D.DeskStore.refused g.S.SiteStore.refused c.loop.machines) (counts g.D.DeskStore.refused g.S.SiteStore.refused c.deliver_round.new.machines) c.loop.invariant.counts c.in_err-deliver_round.field-0.0 (c.in_err-deliver_round.ensures.blames clean (c.loop.invariant.sound (c.deliver_round.ensures.leaves.clean clean) sound)))

pub returns-clause-lists : goal.returns-clause-lists
returns-clause-lists g c = λ db whole past listed stands clean sound waits.
    let so_far = c.loop.invariant.lists db whole past listed stands clean sound waits in
    (goes_silent db whole listed (held g.D.DeskStore.kept g.S.SiteStore.kept c.loop.machines) c.loop.post.waiting.items past c.args.out.replies c.loop.post.heard.items so_far.0, tt, so_far.1)

pub returns-in_err-deliver_round-clause-lists : goal.returns-in_err-deliver_round-clause-lists
returns-in_err-deliver_round-clause-lists g c = λ db whole past listed stands clean sound waits.
    let so_far = c.loop.invariant.lists db whole past listed stands (c.deliver_round.ensures.leaves.clean clean) sound waits in
    let more = c.in_err-deliver_round.ensures.lists db whole (past ++ so_far.0.deeds) listed so_far.1 clean (c.loop.invariant.sound (c.deliver_round.ensures.leaves.clean clean) sound) so_far.0.served in
    only_fails _ _ c.from_residual.result c.from_residual.ensures.1 (on_then db whole (held g.D.DeskStore.kept g.S.SiteStore.kept c.deliver_round.new.machines) past so_far.0.deeds more.1) more.2

-- each letter for its reason, over lists
pub returns-clause-comes : goal.returns-clause-comes
returns-clause-comes g c = λ db listed stands clean sound fits.
    let hold = held g.D.DeskStore.kept g.S.SiteStore.kept in
    let here = scene (hold c.loop.machines) c.loop.post in
    let over : 9 ≤ c.loop.counter → 9 - c.loop.counter ≡ 0 = λ end. omega (arith, end) in
    let came = c.loop.invariant.comes db listed stands clean sound fits in
    let none : here.waiting ≡ [] = elim c.loop-test.branch [
      | else-loop-test w ↦ none_left db here (subst (λ (k : ℕ). RanksUnder k (world_at db here)) (over w.loop-test.false) (c.loop.invariant.ranks_lists db listed stands clean sound fits))
      | then-loop-test+then-is_empty w ↦ none_counted c.loop.post.waiting.items c.loop.post.waiting.len c.loop.post.waiting.ok.0 (sym w.is_empty.ensures ∙ w.if-is_empty.true)
    ] in
    (comes_settled db (put_out_by (hold c.args.machines.now) c.args.out) here came.0 none, came.1)
