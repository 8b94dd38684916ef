-- What was found so far, and what still waits.
use Rattle.history.specs.Picks.{acts_of}
use Rattle.history.specs.Standing.{known_call, told_under}
use Rattle.history.proofs.Looking.{IsLooking}
use Rattle.history.proofs.told.stand.Given as goal

abbrev pub invariant-loop-entry : goal.invariant-loop-entry
invariant-loop-entry l = IsLooking l.schema.relations l.entries (acts_of l.picks.items) (known_call l.last) (told_under l.waiting) l.entry-index
