-- Why `Tickets::set_done` meets its contract.
use Rattle.std.proofs.Common.{Some}
use Rattle.site.specs.Tickets.{with_done}
use Rattle.site.proofs.OldestFirst.{seen_found, seen_set}
use Rattle.site.proofs.tickets.Tickets.set_done.Goals as goal

pub returns : goal.returns
returns c = λ now is.
    seen_set c.args.ticket.now (with_done c.args.op now) c.self.inside.map.entries c.set_done.new.map.entries c.args.self.now c.len-count.ensures.ordered c.self.view_is (c.set_done.ensures now (seen_found c.args.ticket.now c.self.inside.map.entries c.args.self.now (Some now) c.len-count.ensures.ordered c.self.view_is is))
