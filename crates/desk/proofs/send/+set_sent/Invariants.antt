-- What `set_sent` counts down.
use Rattle.std.proofs.Common.{length}
use Rattle.desk.proofs.send.+set_sent.Given as goal

abbrev pub decreases-set_sent : goal.decreases-set_sent
decreases-set_sent l = length l.participants.now
