-- What `set_ticket` counts down.
use Rattle.std.proofs.Common.{length}
use Rattle.desk.proofs.participant.+set_ticket.Given as goal

abbrev pub decreases-set_ticket : goal.decreases-set_ticket
decreases-set_ticket l = length l.participants.now
