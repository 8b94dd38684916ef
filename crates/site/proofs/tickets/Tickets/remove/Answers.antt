-- Why `Tickets::remove` meets its contract.
use Rattle.std.proofs.Common.{ap, ◌∙◌, subst}
use Rattle.std.specs.BTreeMap.{is_at}
use Rattle.std.specs.List.Sorted.{IsStrictlySortedBy}
use Rattle.std.specs.Map.{keys_of, remove_entry}
use Rattle.store.specs.Name.{ticket_cmp}
use Rattle.site.specs.Youngest.{from_oldest}
use Rattle.site.proofs.OldestFirst.{oldest_removed, oldest_sorted}
use Rattle.site.proofs.tickets.Tickets.remove.Goals as goal

pub returns-clause-gone : goal.returns-clause-gone
returns-clause-gone c =
    let k = c.args.ticket.now in
    ap from_oldest c.remove-gone.ensures.entries ∙ oldest_removed k c.self.inside.map.entries c.len-count.ensures.ordered ∙ ap (remove_entry (is_at (ticket_cmp k))) c.self.view_is

pub returns-clause-ordered : goal.returns-clause-ordered
returns-clause-ordered c = subst (λ es. IsStrictlySortedBy ticket_cmp (keys_of es)) c.self.view_is (oldest_sorted c.self.inside.map.entries c.len-count.ensures.ordered)
