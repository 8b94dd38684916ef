-- What each round of `prepared_rows::prepared_of` keeps.
use Rattle.std.proofs.Common.{◌≡◌, ◌≤◌, drop, length}
use Rattle.std.specs.BTreeMap as tree
use Rattle.std.specs.List.{AllByRecursion}
use Rattle.store.specs.declared.name.Ticket.{Ticket}
use Rattle.store.specs.Name.{ticket_cmp}
use Rattle.sqlstore.specs.Content.{changes_in, prepared_in}
use Rattle.sqlstore.specs.Gathered.{IsPromised}
use Rattle.sqlstore.specs.Sound.{IsIntent}
use Rattle.sqlstore.proofs.prepared_rows.prepared_of.Given as goal

-- the intents behind are in the changes of the rows, and each has its prepared row
abbrev pub invariant-loop-at : goal.invariant-loop-at
invariant-loop-at l =
    (l.at ≤ length l.intents) × ((ticket : Ticket) → tree.get ticket_cmp l.map ticket ≡ prepared_in l.rows (changes_in l.leaves (drop l.at l.intents) ticket) ticket)
    × AllByRecursion (λ intent. IsIntent l.leaves intent × IsPromised l.rows intent) (drop l.at l.intents)

abbrev pub decreases-loop-at : goal.decreases-loop-at
decreases-loop-at l = l.at
