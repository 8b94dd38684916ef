-- Why `Tickets::get` meets its contract.
use Rattle.std.proofs.Common.{ap, ◌∙◌}
use Rattle.std.specs.BTreeMap.{is_at}
use Rattle.std.specs.Map.{lookup}
use Rattle.store.specs.Name.{ticket_cmp}
use Rattle.site.proofs.OldestFirst.{oldest_found}
use Rattle.site.proofs.tickets.Tickets.get.Goals as goal

pub returns : goal.returns
returns c =
    let k = c.args.ticket.now in
    c.get.ensures.value ∙ oldest_found k c.self.inside.map.entries c.len-count.ensures.ordered ∙ ap (lookup (is_at (ticket_cmp k))) c.self.view_is
