-- What each round of `pick::columns_from` keeps.
use Rattle.std.proofs.Common.{◌≡◌, ◌++◌, drop}
use Rattle.answers.specs.Laid.{laid_from}
use Rattle.answers.proofs.pick.columns_from.Given as goal

abbrev pub invariant-loop-place : goal.invariant-loop-place
invariant-loop-place l = l.found.items ++ laid_from l.place (drop l.place l.columns) ≡ laid_from 0 l.columns
