use Rattle.std.proofs.Common.{◌≡◌, true, map, rules, ap, sym, ◌∙◌, subst}
use Rattle.std.specs.List.{AllByRecursion}
use Rattle.std.specs.List.Sorted.{IsStrictlySortedBy}
use Rattle.store.specs.declared.prepared.PreparedRow.{PreparedRow}
use Rattle.store.specs.Name.{ticket_cmp}
use Rattle.store.specs.SiteContent.{row_of}
use Rattle.store.proofs.RowLists.{row_found, tickets_listed}
use Rattle.sqlstore.specs.Gathered.{AreAllNumbered, HasChanges}
use Rattle.sqlstore.proofs.Consistent.{begun_of, numbered_of, intents_of, stored_of}
use Rattle.sqlstore.proofs.Intending.{all_changed, each_intended}
use Rattle.sqlstore.proofs.prepared_rows.site_rows.Goals as goal

pub returns-in_default-clause-fails : goal.returns-in_default-clause-fails
returns-in_default-clause-fails c = record { intact = λ are damaged. search (rules, begun_of c.args.leaves.now c.args.tables.now are.0); kept = search rules }

pub returns-in_err-map-clause-fails : goal.returns-in_err-map-clause-fails
returns-in_err-map-clause-fails c = record {
  intact = λ are.
      let never = (rw (c.deref-2.ensures.value, c.deref-3.ensures.value) at c.in_err-map.ensures.tests.intact) (numbered_of c.args.leaves.now c.args.tables.now are.0, intents_of c.args.leaves.now c.args.tables.now are.0) in
      search (rules, never);
  kept = search (rules, c.in_err-map.ensures.tests.kept);
}

pub returns-then-not-are_intended-clause-fails : goal.returns-then-not-are_intended-clause-fails
returns-then-not-are_intended-clause-fails c =
    let tables = c.args.tables.now in
    let found = rw (c.deref-2.ensures.value, c.deref-3.ensures.value) at c.in_ok-map.ensures.ok in
    record {
      intact = λ are damaged.
          let changed = all_changed c.args.leaves.now tables.prepared.items tables.intents.items c.in_ok-map.map c.list_prepared.ensures.ordered found are.0.intended are.0.intents in
          let passed = c.are_intended.ensures.1 (subst (AllByRecursion HasChanges) (sym (c.as_slice.ensures ∙ c.in_ok-prepared.ensures.rows)) changed) in
          search (rules, passed);
      kept = search rules;
    }

pub returns-clause-all : goal.returns-clause-all
returns-clause-all c =
    let entries = c.in_ok-map.map.entries in
    let listed = c.in_ok-prepared.ensures.rows in
    record {
      rows = λ ticket. ap (row_of ticket) listed ∙ row_found entries ticket ∙ (rw (c.deref-2.ensures.value, c.deref-3.ensures.value) at (c.in_ok-map.ensures.ok ticket));
      ascend = subst (IsStrictlySortedBy ticket_cmp) (sym (ap (map (λ (row : PreparedRow). row.ticket)) listed ∙ tickets_listed entries)) c.list_prepared.ensures.ordered;
      incarnation = search rules;
    }

pub returns-clause-learnt : goal.returns-clause-learnt
returns-clause-learnt c =
    let leaves = c.args.leaves.now in
    let tables = c.args.tables.now in
    let all : AreAllNumbered tables = search rules in
    let sound = rw (c.deref-2.ensures.value, c.deref-3.ensures.value) at c.in_ok-map.ensures.tests.learnt in
    let found = rw (c.deref-2.ensures.value, c.deref-3.ensures.value) at c.in_ok-map.ensures.ok in
    let passed : c.are_intended.result ≡ true = search rules in
    let changed = subst (AllByRecursion HasChanges) c.in_ok-prepared.ensures.rows (rw c.as_slice.ensures at (c.are_intended.ensures.0 passed)) in
    stored_of leaves tables all (rw c.deref.ensures.value at c.in-Some.ensures.0) sound.0 sound.1
    (each_intended leaves tables.prepared.items tables.intents.items c.in_ok-map.map c.list_prepared.ensures.ordered found changed sound.0)
