-- What each round of `voters::voters_among` keeps.
use Rattle.std.proofs.Common.{◌≡◌, ◌++◌, drop}
use Rattle.desk.specs.Acknowledge.{voters_among}
use Rattle.desk.proofs.acknowledge.voters_among.Given as goal

-- the voters so far, and those of the rest, are all
abbrev pub invariant-loop-participant : goal.invariant-loop-participant
invariant-loop-participant l = l.voters.items ++ voters_among (drop l.participant-index l.participants) ≡ voters_among l.participants
