-- What each round of `orders::broadcast_letters` keeps.
use Rattle.std.proofs.Common.{◌≡◌, ◌++◌, drop}
use Rattle.desk.specs.Orders.{broadcast_letters}
use Rattle.desk.proofs.send.broadcast_letters.Given as goal

-- the letters so far, and those to the rest, are all
abbrev pub invariant-loop-participant : goal.invariant-loop-participant
invariant-loop-participant l = l.letters.items ++ broadcast_letters l.txn l.word (drop l.participant-index l.participants) ≡ broadcast_letters l.txn l.word l.participants
