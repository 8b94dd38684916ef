use Rattle.std.specs.BTreeMap as tree
use Rattle.sqlite_rules.proofs.ListLemmas.{all_more}
use Rattle.store.specs.Name.{txn_cmp}
use Rattle.sqlstore.specs.DeskSound.{IsVote}
use Rattle.sqlstore.proofs.Telling.{voters_more}
use Rattle.sqlstore.proofs.commit_rows.voters_of.Goals as goal

pub loop-row-preserved : goal.loop-row-preserved
loop-row-preserved c =
    let rows = c.args.rows.now in
    let i = c.loop-row.row-index in
    let row = c.row-item.result in (
      voters_more rows i row (tree.get txn_cmp c.loop-row.commits) (tree.get txn_cmp c.put_vote.new.commits) c.loop-row-test.true c.row-item.is c.loop-row.invariant.0 c.in_ok-put_vote.ensures.ok,
      all_more IsVote rows i row c.loop-row-test.true c.row-item.is c.loop-row.invariant.1 c.in_ok-put_vote.ensures.tests.learnt,
    )
