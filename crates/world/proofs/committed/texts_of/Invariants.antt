-- What each round of `texts_of` keeps.
use Rattle.std.proofs.Common.{◌≡◌, ◌++◌, drop}
use Rattle.world.specs.Replies.{texts_of}
use Rattle.world.proofs.committed.texts_of.Given as goal

-- the texts so far, and those of the rest
abbrev pub invariant-loop-entry : goal.invariant-loop-entry
invariant-loop-entry l = l.texts.items ++ texts_of (drop l.entry-index l.entries) l.txn ≡ texts_of l.entries l.txn
