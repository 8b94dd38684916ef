-- Why `Tickets::inquire` meets its contract.
use Rattle.std.proofs.Common.{subst}
use Rattle.std.specs.List.Sorted.{IsStrictlySortedBy}
use Rattle.std.specs.Map.{keys_of}
use Rattle.store.specs.Name.{ticket_cmp}
use Rattle.site.proofs.OldestFirst.{oldest_sorted}
use Rattle.site.proofs.tickets.Tickets.inquire.Goals as goal

pub returns-clause-ordered : goal.returns-clause-ordered
returns-clause-ordered c = subst (λ es. IsStrictlySortedBy ticket_cmp (keys_of es)) c.self.view_is (oldest_sorted c.self.inside.map.entries c.len-count.ensures.ordered)
