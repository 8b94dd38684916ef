-- What each round of `txns_of` keeps.
use Rattle.std.proofs.Common.{◌≡◌, ◌++◌, drop, map}
use Rattle.world.proofs.rebuild.txns_of.Given as goal

-- the transactions so far, and those of the rest
abbrev pub invariant-loop-row : goal.invariant-loop-row
invariant-loop-row l = l.txns.items ++ map (λ row. row.txn) (drop l.row-index l.rows) ≡ map (λ row. row.txn) l.rows
