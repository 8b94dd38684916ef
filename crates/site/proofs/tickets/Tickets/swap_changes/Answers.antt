-- Why `Tickets::swap_changes` meets its contract.
use Rattle.std.proofs.Common.{Some}
use Rattle.site.specs.Tickets.{with_changes}
use Rattle.site.proofs.OldestFirst.{seen_found, seen_set}
use Rattle.site.proofs.tickets.Tickets.swap_changes.Goals as goal

pub returns-clause-old : goal.returns-clause-old
returns-clause-old c = λ now is.
    c.swap_changes.ensures.old now (seen_found c.args.ticket.now c.self.inside.map.entries c.args.self.now (Some now) c.len-count.ensures.ordered c.self.view_is is)

pub returns-clause-swapped : goal.returns-clause-swapped
returns-clause-swapped c = λ now is.
    seen_set c.args.ticket.now (with_changes c.args.changes now) c.self.inside.map.entries c.swap_changes.new.map.entries c.args.self.now c.len-count.ensures.ordered c.self.view_is (c.swap_changes.ensures.swapped now (seen_found c.args.ticket.now c.self.inside.map.entries c.args.self.now (Some now) c.len-count.ensures.ordered c.self.view_is is))
