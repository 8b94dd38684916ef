-- What `set_vote` counts down.
use Rattle.std.proofs.Common.{length}
use Rattle.desk.proofs.participant.+set_vote.Given as goal

abbrev pub decreases-set_vote : goal.decreases-set_vote
decreases-set_vote l = length l.participants.now
