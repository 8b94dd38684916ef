-- Why `keep` meets its contract.
use Rattle.std.proofs.Common.{rules, refl, sym, ap, ◌∙◌, subst, ◌-◌, map}
use Rattle.std.specs.BTreeMap.{is_at}
use Rattle.std.specs.List.Sorted.{IsStrictlySortedBy}
use Rattle.std.specs.Map.{set_value, remove_entry, keys_of}
use Rattle.std.proofs.lemmas.Map.Steps.{set_value_same}
use Rattle.store.specs.Content.{Changes}
use Rattle.store.specs.Name.{ticket_cmp}
use Rattle.store.specs.SiteContent.{MayPrepare, Prepares}
use Rattle.site.specs.declared.tickets.TicketState.TheVariants as standing
use Rattle.site.specs.Locks.{stops, stops_reading}
use Rattle.site.specs.State.{VolatileState, volatile_of, volatile_from}
use Rattle.site.proofs.Acts.{steps_at}
use Rattle.site.proofs.Finals.{visit_ends, prepares_steps, set_twice, set_removed, set_here, no_act, yes_act, is_visiting}
use Rattle.site.proofs.Had.{may_prepare}
use Rattle.site.proofs.TicketStates.{Entries, set_keys}
use Rattle.site.proofs.phases.keep.Goals as goal

pub returns-then-not-kept-clause-ok : goal.returns-then-not-kept-clause-ok
returns-then-not-kept-clause-ok g c = λ clean sound fits visit is.
    let p = c.args.volatile.now in
    let k = c.args.ticket in
    let kept = g.S.SiteStore.kept c.args.store.now in
    steps_at kept kept (volatile_of p) (volatile_of c.end.new.self) _ _ c.voted.result c.end.ensures.ended
    (visit_ends kept p.standings p.locks.items p.active p.life p.number fits k kept _ refl c.end.ensures.ordered (is_visiting p.standings k visit is) (record { has = λ leaf. refl; content = λ leaf. refl; prepared = λ ticket. refl; life = refl }) _ c.voted.result
    (no_act k c.voted.result _ c.voted.ensures))

pub returns-then-eq-clause-ends : goal.returns-then-eq-clause-ends
returns-then-eq-clause-ends g c =
    let p = c.args.volatile.now in
    let k = c.args.ticket in
    let visit = c.requires.0 in
    let is = c.requires.1 in
    let test = is_at (ticket_cmp k) in
    let empty = standing.Active (record visit { changes = c.new-none.result }) in
    let once = c.swap_changes-changes.ensures.swapped (standing.Active visit) is in
    let twice = c.swap_changes-none.ensures.swapped empty (set_here p.standings c.swap_changes-changes.new.self k (standing.Active visit) empty is once) in
    let again : Changes → Entries = λ changes. set_value test p.standings (standing.Active (record visit { changes = changes })) in
    let same = twice ∙ ap (λ es. set_value test es (standing.Active (record visit { changes = c.in-Err.unkept.changes }))) once ∙ set_twice k p.standings empty (standing.Active (record visit { changes = c.in-Err.unkept.changes }))
    ∙ ap again (c.in-Err.ensures.back ∙ c.swap_changes-changes.ensures.old (standing.Active visit) is) ∙ set_value_same test p.standings (standing.Active visit) is in
    record {
      fails = record {
        store = c.keep_prepared.ensures.leaves;
        memory = record { volatile = record { name = refl; leaves = refl }; err = ap (λ es. volatile_from es p.locks.items p.active p.life p.number) same };
        uncalled = λ unmade. search (rules, unmade);
        same = λ clean sound. c.in-Err.ensures.err clean sound;
        refusal = λ e. cc;
        intact = λ clean sound e. cc;
        plain = λ e. cc;
      };
      own = λ e. cc;
      within = λ e. cc;
    }

pub returns-in-Ok-clause-ok : goal.returns-in-Ok-clause-ok
returns-in-Ok-clause-ok g c = λ clean sound fits visit is.
    let p = c.args.volatile.now in
    let k = c.args.ticket in
    let kept = g.S.SiteStore.kept c.args.store.now in
    let after = g.S.SiteStore.kept c.keep_prepared.new.self in
    let empty = standing.Active (record visit { changes = c.new-none.result }) in
    let once = c.swap_changes-changes.ensures.swapped (standing.Active visit) is in
    let own = c.swap_changes-changes.ensures.old (standing.Active visit) is in
    let may = subst (λ changes. MayPrepare k changes kept) (sym own) (may_prepare kept p.standings p.locks.items p.active p.life p.number fits k c.requires.0 visit c.requires.1 is c.requires.2) in
    let keeps = subst (λ changes. Prepares k (record { txn = c.args.txn; changes = changes }) kept after) own (c.in-Ok.ensures.ok clean sound may) in
    let rest : Entries → VolatileState = λ es. volatile_from es (map (stops_reading k p.number) p.locks.items) (p.active - 1) p.life p.number in
    let ends = c.prepare.ensures.prepared empty (set_here p.standings c.swap_changes-changes.new.self k (standing.Active visit) empty is once)
    ∙ ap (λ es. rest (set_value (is_at (ticket_cmp k)) es (standing.Prepared c.args.txn))) once ∙ ap rest (set_twice k p.standings empty (standing.Prepared c.args.txn)) in
    steps_at kept after (volatile_of p) (volatile_of c.prepare.new.self) _ _ c.voted-in-Ok.result ends
    (prepares_steps kept p.standings p.locks.items p.active p.life p.number fits k after c.args.txn visit is keeps _ c.voted-in-Ok.result (yes_act k c.voted-in-Ok.result _ _ c.voted-in-Ok.ensures) c.voted-in-Ok.ensures)

pub returns-else-eq-clause-ok : goal.returns-else-eq-clause-ok
returns-else-eq-clause-ok g c = λ clean sound fits visit is.
    let p = c.args.volatile.now in
    let k = c.args.ticket in
    let kept = g.S.SiteStore.kept c.args.store.now in
    let after = g.S.SiteStore.kept c.keep_prepared.new.self in
    let empty = standing.Active (record visit { changes = c.new-none.result }) in
    let once = c.swap_changes-changes.ensures.swapped (standing.Active visit) is in
    let sorted = subst (IsStrictlySortedBy ticket_cmp) (ap keys_of once ∙ set_keys k p.standings empty) c.end-in-Err.ensures.ordered in
    let rest : Entries → VolatileState = λ es. volatile_from es (map (stops k p.number) p.locks.items) (p.active - 1) p.life p.number in
    let ends = c.end-in-Err.ensures.ended ∙ ap (λ es. rest (remove_entry (is_at (ticket_cmp k)) es)) once ∙ ap rest (set_removed k p.standings empty) in
    steps_at kept after (volatile_of p) (volatile_of c.end-in-Err.new.self) _ _ c.voted-in-Err.result ends
    (visit_ends kept p.standings p.locks.items p.active p.life p.number fits k after _ refl sorted (is_visiting p.standings k visit is) (c.in-Err.ensures.err clean sound) _ c.voted-in-Err.result
    (no_act k c.voted-in-Err.result _ c.voted-in-Err.ensures))
