-- Why `PlainDesk::load` meets its contract.
use Rattle.std.proofs.Common.{map, refl, ap, sym, ◌∙◌, subst}
use Rattle.std.specs.List.Sorted.{IsStrictlySortedBy}
use Rattle.store.specs.declared.commit.CommitRow.{CommitRow}
use Rattle.std.specs.Option.{option_map}
use Rattle.store.specs.DeskContent.{by_site, voters_in}
use Rattle.store.specs.Name.{txn_cmp}
use Rattle.store.proofs.RowLists.{voters_found, txns_listed}
use Rattle.store.proofs.plain_desk.PlainDeskDeskStore.load.Goals as goal

pub returns-clause-all : goal.returns-clause-all
returns-clause-all c = λ clean.
    let entries = c.args.self.now.commits.entries in
    let listed = c.in_ok-list_commits.ensures.rows in
    record {
      rows = λ txn. ap (option_map by_site) (ap (voters_in txn) listed ∙ voters_found entries txn);
      ascend = subst (IsStrictlySortedBy txn_cmp) (sym (ap (map (λ (row : CommitRow). row.txn)) listed ∙ txns_listed entries)) c.list_commits.ensures.ordered;
      incarnation = refl;
      catalogue = refl;
    }
