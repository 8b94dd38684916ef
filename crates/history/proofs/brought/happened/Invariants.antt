-- What is left is enough.
use Rattle.std.proofs.Common.{drop}
use Rattle.history.specs.Picks.{acts_of}
use Rattle.history.proofs.Happening.{IsTelling}
use Rattle.history.proofs.brought.happened.Given as goal

abbrev pub invariant-loop-act : goal.invariant-loop-act
invariant-loop-act l = IsTelling l.sites (acts_of l.acts) (acts_of (drop l.act-index l.acts)) l.sent l.happened.items
