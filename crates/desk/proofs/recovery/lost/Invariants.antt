-- What each round of `starting::lost` keeps.
use Rattle.std.proofs.Common.{◌≡◌, ◌++◌}
use Rattle.desk.specs.Recovery.{lost_among}
use Rattle.desk.proofs.recovery.lost.Given as goal

-- the notices so far, and those of what is left, are all
abbrev pub invariant-loop-txn : goal.invariant-loop-txn
invariant-loop-txn l = l.notices.items ++ lost_among l.txn-iterator ≡ lost_among l.volatile.standings.entries
