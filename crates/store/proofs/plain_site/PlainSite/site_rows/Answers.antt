-- Why `PlainSite::site_rows` meets its contract.
use Rattle.std.proofs.Common.{map, refl, ap, sym, ◌∙◌, subst}
use Rattle.std.specs.List.Sorted.{IsStrictlySortedBy}
use Rattle.store.specs.declared.prepared.PreparedRow.{PreparedRow}
use Rattle.store.specs.Name.{ticket_cmp}
use Rattle.store.specs.SiteContent.{row_of}
use Rattle.store.proofs.RowLists.{row_found, tickets_listed}
use Rattle.store.proofs.plain_site.PlainSite.site_rows.Goals as goal

pub returns : goal.returns
returns c =
    let entries = c.args.self.now.prepared.entries in
    let listed = c.in_ok-list_rows.ensures.rows in
    record {
      rows = λ ticket. ap (row_of ticket) listed ∙ row_found entries ticket;
      ascend = subst (IsStrictlySortedBy ticket_cmp) (sym (ap (map (λ (row : PreparedRow). row.ticket)) listed ∙ tickets_listed entries)) c.list_rows.ensures.ordered;
      incarnation = refl;
    }
