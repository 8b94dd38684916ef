-- What each round of `lexer::tokens` keeps.
use Rattle.std.proofs.Common.{length}
use Rattle.reader.proofs.Loop.{AreRead}
use Rattle.reader.proofs.lexer.tokens.Given as goal

abbrev pub invariant-loop-begun : goal.invariant-loop-begun
invariant-loop-begun l = AreRead l.text l.tokens.items l.rest

abbrev pub decreases-loop-begun : goal.decreases-loop-begun
decreases-loop-begun l = length l.rest
