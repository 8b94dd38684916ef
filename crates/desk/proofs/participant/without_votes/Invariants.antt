-- What each round of `participant::without_votes` keeps.
use Rattle.std.proofs.Common.{◌≡◌, ◌++◌, map, drop, None}
use Rattle.desk.specs.Participants.{with_vote}
use Rattle.desk.proofs.participant.without_votes.Given as goal

-- the participants so far, and what becomes of the rest, are all
abbrev pub invariant-loop-participant : goal.invariant-loop-participant
invariant-loop-participant l = l.others.items ++ map (with_vote None) (drop l.participant-index l.participants) ≡ map (with_vote None) l.participants
