-- Why `Tickets::len` meets its contract.
use Rattle.std.proofs.Common.{subst}
use Rattle.std.specs.List.Sorted.{IsStrictlySortedBy}
use Rattle.std.specs.Map.{keys_of}
use Rattle.store.specs.Name.{ticket_cmp}
use Rattle.site.proofs.OldestFirst.{oldest_sorted}
use Rattle.site.proofs.tickets.Tickets.len.Goals as goal

pub returns : goal.returns
returns c = record { ordered = subst (λ es. IsStrictlySortedBy ticket_cmp (keys_of es)) c.self.view_is (oldest_sorted c.self.inside.map.entries c.len.ensures.ordered) }
