-- The letters that were passed are others.
use Rattle.history.specs.Sent.{behind, letters_of}
use Rattle.history.proofs.Linked.{HasPassed}
use Rattle.history.proofs.sent.find_from.Given as goal

abbrev pub invariant-loop-next : goal.invariant-loop-next
invariant-loop-next l = HasPassed (letters_of l.links) l.letter l.next

-- the search goes back
abbrev pub decreases-loop-next : goal.decreases-loop-next
decreases-loop-next l = behind l.next
