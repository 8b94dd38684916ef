-- What was told so far waits under its numbers.
use Rattle.std.proofs.Common.{take}
use Rattle.history.specs.Picks.{acts_of}
use Rattle.history.specs.Standing.{AreUnder, told_under}
use Rattle.history.proofs.told.by_number.Given as goal

abbrev pub invariant-loop-pick : goal.invariant-loop-pick
invariant-loop-pick l = AreUnder (told_under l.waiting) (acts_of (take l.pick-index l.picks))
