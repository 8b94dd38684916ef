-- What each round of `answers_to` keeps.
use Rattle.std.proofs.Common.{◌≡◌, ◌++◌, drop}
use Rattle.world.specs.Replies.{answers_to}
use Rattle.world.proofs.committed.answers_to.Given as goal

-- the answers so far, and those of the rest
abbrev pub invariant-loop-entry : goal.invariant-loop-entry
invariant-loop-entry l = l.answers.items ++ answers_to (drop l.entry-index l.entries) l.txn ≡ answers_to l.entries l.txn
