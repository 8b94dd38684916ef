-- Why `Tickets::set_prepared` meets its contract.
use Rattle.std.proofs.Common.{Some}
use Rattle.site.specs.declared.tickets.TicketState.TheVariants as standing
use Rattle.site.proofs.OldestFirst.{seen_found, seen_set}
use Rattle.site.proofs.tickets.Tickets.set_prepared.Goals as goal

pub returns : goal.returns
returns c = λ now is.
    seen_set c.args.ticket.now (standing.Prepared c.args.txn) c.self.inside.map.entries c.set_prepared.new.map.entries c.args.self.now c.len-count.ensures.ordered c.self.view_is (c.set_prepared.ensures now (seen_found c.args.ticket.now c.self.inside.map.entries c.args.self.now (Some now) c.len-count.ensures.ordered c.self.view_is is))
