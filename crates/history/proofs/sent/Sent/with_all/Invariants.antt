-- The letters so far are there.
use Rattle.std.proofs.Common.{◌≡◌, ◌++◌, take}
use Rattle.history.proofs.sent.Sent.with_all.Given as goal

abbrev pub invariant-loop-letter : goal.invariant-loop-letter
invariant-loop-letter l = l.sent ≡ l.initial.sent ++ take l.letter-index l.letters
