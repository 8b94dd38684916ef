-- What each round of `copy_replies` keeps.
use Rattle.std.proofs.Common.{All}
use Rattle.wire.specs.Front.{IsOf}
use Rattle.wire.proofs.front.copy_replies.Given as goal

abbrev pub invariant-loop-notice : goal.invariant-loop-notice
invariant-loop-notice l = All (IsOf l.entry) l.fn.given.items → All (IsOf l.entry) l.given.items
