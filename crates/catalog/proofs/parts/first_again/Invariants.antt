use Rattle.std.proofs.Common.{take}
use Rattle.catalog.specs.Parts.{AreApart}
use Rattle.catalog.proofs.parts.first_again.Given as goal

abbrev pub invariant-loop-place : goal.invariant-loop-place
invariant-loop-place l = AreApart (take l.place l.columns)
