-- What each round of `prepared_rows::tickets_of` keeps.
use Rattle.std.proofs.Common.{◌≡◌, ◌≤◌, drop, length}
use Rattle.std.specs.BTreeMap as tree
use Rattle.std.specs.FinMap as fin
use Rattle.std.specs.List.{AllByRecursion}
use Rattle.store.specs.declared.name.Ticket.{Ticket}
use Rattle.store.specs.Name.{ticket_cmp}
use Rattle.sqlstore.specs.Content.{prepared_in}
use Rattle.sqlstore.specs.Sound.{IsNumbered}
use Rattle.sqlstore.proofs.prepared_rows.tickets_of.Given as goal

-- the map has the rows behind
abbrev pub invariant-loop-at : goal.invariant-loop-at
invariant-loop-at l = (l.at ≤ length l.rows) × ((ticket : Ticket) → tree.get ticket_cmp l.map ticket ≡ prepared_in (drop l.at l.rows) fin.empty ticket) × AllByRecursion IsNumbered (drop l.at l.rows)

abbrev pub decreases-loop-at : goal.decreases-loop-at
decreases-loop-at l = l.at
