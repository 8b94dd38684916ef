-- What each round of `recovery::find_voter` keeps.
use Rattle.std.proofs.Common.{◌≡◌, drop, find}
use Rattle.desk.specs.Recovery.{is_of}
use Rattle.desk.proofs.recovery.find_voter.Given as goal

-- it stands among the rest, if at all
abbrev pub invariant-loop-voter : goal.invariant-loop-voter
invariant-loop-voter l = find (is_of l.site) (drop l.voter-index l.voters) ≡ find (is_of l.site) l.voters
