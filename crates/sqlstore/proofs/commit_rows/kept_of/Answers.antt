use Rattle.std.proofs.Common.{map, ap, sym, ◌∙◌, subst}
use Rattle.std.specs.List.Sorted.{IsStrictlySortedBy}
use Rattle.std.specs.Option.{option_map}
use Rattle.store.specs.declared.commit.CommitRow.{CommitRow}
use Rattle.store.specs.DeskContent.{by_site, voters_in}
use Rattle.store.specs.Name.{txn_cmp}
use Rattle.store.proofs.RowLists.{voters_found, txns_listed}
use Rattle.sqlstore.specs.Content.{life_in}
use Rattle.sqlstore.specs.Decided.{voters_by, version_in}
use Rattle.sqlstore.specs.DeskRows.{some_voters}
use Rattle.sqlstore.proofs.Telling.{row_of_some}
use Rattle.sqlstore.proofs.commit_rows.kept_of.Goals as goal

pub returns-clause-all : goal.returns-clause-all
returns-clause-all c =
    let rows = c.args.rows.now in
    let entries = c.in_ok-commits.commits.entries in
    let listed = c.in_ok-list_commits.ensures.rows in
    let epoch = c.in-Some.ensures in
    record {
      rows = λ txn. ap (option_map by_site) (ap (voters_in txn) listed ∙ voters_found entries txn ∙ c.in_ok-commits.ensures.ok txn ∙ ap (λ votes. some_voters (voters_by votes txn)) c.deref-3.ensures.value) ∙ row_of_some (voters_by rows.votes.items txn);
      ascend = subst (IsStrictlySortedBy txn_cmp) (sym (ap (map (λ (row : CommitRow). row.txn)) listed ∙ txns_listed entries)) c.list_commits.ensures.ordered;
      incarnation = epoch.1 ∙ ap life_in c.deref-2.ensures.value;
      catalogue = epoch.2 ∙ ap version_in c.deref-2.ensures.value;
    }
