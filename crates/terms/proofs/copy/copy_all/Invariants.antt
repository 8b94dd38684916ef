-- What each round of `copy::copy_all` keeps.
use Rattle.std.proofs.Common.{◌≡◌, take}
use Rattle.terms.proofs.copy.copy_all.Given as goal

abbrev pub invariant-loop-item : goal.invariant-loop-item
invariant-loop-item g l = l.copies.items ≡ take l.item-index l.items
