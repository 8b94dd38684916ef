-- What each round of `pick::are_in_order` keeps.
use Rattle.std.proofs.Common.{◌≡◌, drop}
use Rattle.answers.specs.Laid.{laid_from, numbers}
use Rattle.answers.proofs.pick.are_in_order.Given as goal

abbrev pub invariant-loop-place : goal.invariant-loop-place
invariant-loop-place l = drop l.place l.columns ≡ laid_from l.place (numbers (drop l.place l.columns)) → l.columns ≡ laid_from 0 (numbers l.columns)
