-- What each round of `is_committed` keeps.
use Rattle.std.proofs.Common.{◌≡◌, drop}
use Rattle.world.specs.Replies.{is_told_committed}
use Rattle.world.proofs.committed.is_committed.Given as goal

-- the rest tells it, if any entry does
abbrev pub invariant-loop-entry : goal.invariant-loop-entry
invariant-loop-entry l = is_told_committed (drop l.entry-index l.entries) l.txn ≡ is_told_committed l.entries l.txn
