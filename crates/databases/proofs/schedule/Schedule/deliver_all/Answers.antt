use Rattle.std.proofs.Common.{◌≡◌, ◌++◌, ◌+◌, ◌∷◌, [], ℕ, List, Bool, Some, true, drop, length, string_bytes, ap, sym, subst, rules, arith, length-append, ◌∙◌}
use Rattle.databases.specs.Delivering.{DeliversAt, DeliversEach, first_due, first_due_from}
use Rattle.databases.specs.Schedule.{stage_of, world_over}
use Rattle.databases.proofs.CountedLemmas.{counted_by_delivery}
use Rattle.databases.proofs.DeliveringLemmas.{DeliversEach-more, next_behind}
use Rattle.databases.proofs.ReachedLemmas.{leaves_then}
use Rattle.databases.proofs.schedule.Schedule.deliver_all.Goals as goal

pub loop-preserved : goal.loop-preserved
loop-preserved g c =
    let but = c.args.but.now in
    let so_far = c.loop.invariant in
    let place = c.in-Some.place in
    let before = stage_of c.args.self.now in
    let middle = stage_of c.loop.self in
    let after = stage_of c.deliver_at.new.self in
    let due_here : first_due but middle ≡ Some place =
    so_far.due ∙ ap (λ (came : List Bool). first_due_from c.loop.from but (drop c.loop.from came)) (sym c.as_slice.ensures.value) ∙ sym c.in-Some.ensures.due in
    let delivered : DeliversAt place true middle after (string_bytes c.in_ok-told.told) = c.in_ok-told.ensures.delivers in
    let wrote : string_bytes c.push_str.new.self ≡ string_bytes c.loop.text ++ string_bytes c.in_ok-told.told = search rules in
    let went = so_far.went.0 in
    let count : length (went ++ place ∷ []) ≡ c.loop.counter + 1 = simp length-append (omega (arith, so_far.went.2)) in
    record {
      went = (
        went ++ place ∷ [],
        subst (λ (text : List ℕ). DeliversEach but (went ++ place ∷ []) before after text) (sym wrote)
            (DeliversEach-more but went place before middle after (string_bytes c.loop.text) (string_bytes c.in_ok-told.told) so_far.went.1 due_here delivered),
        count,
      );
      due = next_behind but place middle after (string_bytes c.in_ok-told.told) due_here delivered;
      counted = counted_by_delivery place true middle after (string_bytes c.in_ok-told.told) delivered so_far.counted;
      leaves = leaves_then (world_over g.D.DeskStore.is_clean g.S.SiteStore.is_clean g.D.DeskStore.is_sound g.S.SiteStore.is_sound g.D.DeskStore.kept g.S.SiteStore.kept g.D.DeskStore.refused g.S.SiteStore.refused) c.args.self.now.world c.loop.self.world c.deliver_at.new.self.world so_far.leaves c.deliver_at.ensures.leaves;
    }

pub returns-in_err-told-clause-leaves : goal.returns-in_err-told-clause-leaves
returns-in_err-told-clause-leaves g c = leaves_then (world_over g.D.DeskStore.is_clean g.S.SiteStore.is_clean g.D.DeskStore.is_sound g.S.SiteStore.is_sound g.D.DeskStore.kept g.S.SiteStore.kept g.D.DeskStore.refused g.S.SiteStore.refused) c.args.self.now.world c.loop.self.world c.deliver_at.new.self.world c.loop.invariant.leaves c.deliver_at.ensures.leaves

pub returns-in_err-push_str-clause-leaves : goal.returns-in_err-push_str-clause-leaves
returns-in_err-push_str-clause-leaves g c = leaves_then (world_over g.D.DeskStore.is_clean g.S.SiteStore.is_clean g.D.DeskStore.is_sound g.S.SiteStore.is_sound g.D.DeskStore.kept g.S.SiteStore.kept g.D.DeskStore.refused g.S.SiteStore.refused) c.args.self.now.world c.loop.self.world c.deliver_at.new.self.world c.loop.invariant.leaves c.deliver_at.ensures.leaves
