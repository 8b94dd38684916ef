-- What each round of `participant::find_participant` keeps.
use Rattle.std.proofs.Common.{◌≡◌, drop, find}
use Rattle.desk.specs.Participants.{is_at}
use Rattle.desk.proofs.participant.find_participant.Given as goal

-- it stands among the rest, if at all
abbrev pub invariant-loop-participant : goal.invariant-loop-participant
invariant-loop-participant l = find (is_at l.site) (drop l.participant-index l.participants) ≡ find (is_at l.site) l.participants
