use Rattle.std.proofs.Common.{drop, ◌-◌, subst, sym, arith, rules}
use Rattle.std.specs.BTreeMap as tree
use Rattle.sqlite_rules.specs.Lists.{Has}
use Rattle.sqlite_rules.proofs.ListLemmas.{all_has}
use Rattle.store.specs.Name.{ticket_cmp}
use Rattle.sqlstore.specs.Content.{changes_in}
use Rattle.sqlstore.specs.Gathered.{IsPromised}
use Rattle.sqlstore.specs.Sound.{IsIntent}
use Rattle.sqlstore.proofs.Backward.{one_before, all_before}
use Rattle.sqlstore.proofs.Intending.{has_row, own_more, promised_by}
use Rattle.sqlstore.proofs.Querying.{has_at}
use Rattle.sqlstore.proofs.prepared_rows.prepared_of.Goals as goal

pub loop-at-preserved : goal.loop-at-preserved
loop-at-preserved c =
    let leaves = c.args.leaves.now in
    let rows = c.args.rows.now in
    let intents = c.args.intents.now in
    let intent = c.index-intents-at.result in
    let kept = c.loop-at.invariant in
    let is = one_before intents c.loop-at.at intent (omega arith) kept.0 c.index-intents-at.is in
    let put = c.in_ok-put_own.ensures in (
      omega arith,
      λ ticket. own_more leaves rows _ _ intent ticket _ _ is (kept.1 ticket) (put.ok ticket),
      all_before (λ i. IsIntent leaves i × IsPromised rows i) intents c.loop-at.at intent is (put.tests.learnt.0, promised_by rows (changes_in leaves (drop c.loop-at.at intents)) (tree.get ticket_cmp c.loop-at.map) intent kept.1 put.tests.learnt.1) kept.2,
    )

pub returns-in_err-put_own-clause-tests : goal.returns-in_err-put_own-clause-tests
returns-in_err-put_own-clause-tests c =
    let leaves = c.args.leaves.now in
    let rows = c.args.rows.now in
    let intent = c.index-intents-at.result in
    let kept = c.loop-at.invariant in
    let there = subst (λ r. Has c.args.intents.now r) (sym c.index-intents-at.is) (has_at c.args.intents.now (c.loop-at.at - 1) intent (omega arith)) in
    record {
      learnt = search rules;
      intact = λ are.
          let its = all_has (λ i. IsIntent leaves i × IsPromised rows i) c.args.intents.now intent are.1 there in
          let has = has_row rows (changes_in leaves (drop c.loop-at.at c.args.intents.now)) (tree.get ticket_cmp c.loop-at.map) intent kept.1 are.0 its.1 in
          search (rules, c.put_own.ensures.tests.intact (its.0, has));
      kept = search (rules, c.put_own.ensures.tests.kept);
    }
