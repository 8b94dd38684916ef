-- What each round of `text::are_same` keeps.
use Rattle.std.proofs.Common.{◌≡◌, take}
use Rattle.terms.proofs.text.are_same.Given as goal

abbrev pub invariant-loop-place : goal.invariant-loop-place
invariant-loop-place l = take l.place l.bytes ≡ take l.place l.others
