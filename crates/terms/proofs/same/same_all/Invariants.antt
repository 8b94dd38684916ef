-- What each round of `same::same_all` keeps.
use Rattle.std.proofs.Common.{◌≡◌, take}
use Rattle.terms.proofs.same.same_all.Given as goal

abbrev pub invariant-loop-place : goal.invariant-loop-place
invariant-loop-place g l = take l.place l.items ≡ take l.place l.others
