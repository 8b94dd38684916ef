-- Why `begin` meets its contract.
use Rattle.std.proofs.Common.{rules, ◌≡◌, ap, sym, ◌∙◌, subst, ◌+◌, ◌<◌, ◌^◌, map, false, ⊎_elim, arith}
use Rattle.store.specs.declared.fault.StoreFault.TheVariants as store_faults
use Rattle.site.specs.Locks.{free, leaves_in}
use Rattle.site.specs.Recovery.{all_may_stand}
use Rattle.site.specs.State.{AreHad}
use Rattle.site.proofs.PreparedRows.{all_leaves}
use Rattle.site.proofs.Recovered.{begins_from, not_memory}
use Rattle.site.proofs.recovery.begin.Goals as goal

pub returns-in_err-resting-clause-fails : goal.returns-in_err-resting-clause-fails
returns-in_err-resting-clause-fails g c = record {
  store = c.rows.ensures.leaves;
  learnt = search rules;
  life = search rules;
  same = search rules;
  refusal = search rules;
  full = search rules;
  damaged = λ clean sound e. ⊎_elim
      (λ m. not_memory c.from_residual.result c.in_err-resting.field-0.0 store_faults.Damaged c.from_residual.ensures.1 e m)
      (λ d. record { all = c.in-Ok.all; lists = c.in-Ok.ensures.all clean; strange = subst (λ rows. all_may_stand c.args.leaves.now c.in-Ok.all.life rows (map free c.args.leaves.now) ≡ false) c.as_slice.ensures d.1 })
      c.in_err-resting.ensures.fault;
}

pub returns-in-Ok-next_incarnation-clause-ok : goal.returns-in-Ok-next_incarnation-clause-ok
returns-in-Ok-next_incarnation-clause-ok g c = λ clean had.
    let before = c.next_incarnation.ensures.leaves.clean clean in
    let sound = c.rows.ensures.leaves.sound before (c.in-Ok.ensures.learnt before) in
    let kept = g.S.SiteStore.kept c.rows.new.self in
    let after = g.S.SiteStore.kept c.next_incarnation.new.self in
    let lists = c.in-Ok.ensures.all before in
    let i = lists.incarnation in
    let f = c.if-all-ge-LAST.false in
    let below : kept.life + 1 < 2 ^ 63 = grind (arith) in
    let begun = c.in-Ok-next_incarnation.ensures.ok clean sound below in
    let had_still : AreHad c.args.leaves.now kept = λ leaf here. (c.rows.ensures.reads.same before (c.in-Ok.ensures.learnt before)).has leaf ∙ had leaf here in
    begins_from c.args.leaves.now c.in-Ok.all kept after lists begun had_still c.as_slice.result.now c.as_slice.ensures
    c.in_ok-resting.resting.standings c.in_ok-resting.resting.locks.items c.in-Ok-next_incarnation.life (subst (λ n. n < 2 ^ 63) (sym begun.life) below)
    c.in_ok-resting.ensures.standings c.in_ok-resting.ensures.locks c.in_ok-resting.ensures.right c.in_ok-resting.ensures.ordered (c.in-Ok-next_incarnation.ensures.life clean sound)

pub returns-in-Ok-next_incarnation-clause-leaves : goal.returns-in-Ok-next_incarnation-clause-leaves
returns-in-Ok-next_incarnation-clause-leaves g c = ap leaves_in c.in_ok-resting.ensures.locks ∙ all_leaves c.args.leaves.now c.as_slice.result.now
