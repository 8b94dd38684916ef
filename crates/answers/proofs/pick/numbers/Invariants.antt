-- What each round of `pick::numbers` keeps.
use Rattle.std.proofs.Common.{◌≡◌, ◌++◌, drop}
use Rattle.answers.specs.Laid.{numbers}
use Rattle.answers.proofs.pick.numbers.Given as goal

abbrev pub invariant-loop-column : goal.invariant-loop-column
invariant-loop-column l = l.found.items ++ numbers (drop l.column-index l.columns) ≡ numbers l.columns
