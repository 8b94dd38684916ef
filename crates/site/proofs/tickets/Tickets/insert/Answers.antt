-- Why `Tickets::insert` meets its contract.
use Rattle.std.proofs.Common.{ap, ◌∙◌}
use Rattle.std.specs.BTreeMap.{insert_entry}
use Rattle.store.specs.Name.{ticket_cmp}
use Rattle.site.specs.Youngest.{from_oldest}
use Rattle.site.proofs.OldestFirst.{oldest_inserted, oldest_sorted}
use Rattle.site.proofs.tickets.Tickets.insert.Goals as goal

pub returns-in_err-_old-clause-ordered : goal.returns-in_err-_old-clause-ordered
returns-in_err-_old-clause-ordered c = oldest_sorted c.insert.new.self.entries c.insert.ensures.ordered

pub returns-clause-ok : goal.returns-clause-ok
returns-clause-ok c =
    ap from_oldest c.in_ok-_old.ensures.entries ∙ oldest_inserted _ c.args.standing c.self.inside.map.entries c.len-count.ensures.ordered
    ∙ ap (λ es. insert_entry ticket_cmp es c.args.ticket c.args.standing) c.self.view_is

pub returns-clause-ordered : goal.returns-clause-ordered
returns-clause-ordered c = oldest_sorted c.insert.new.self.entries c.insert.ensures.ordered
