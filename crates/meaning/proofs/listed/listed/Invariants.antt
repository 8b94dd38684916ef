-- What each round of `listed::listed` keeps.
use Rattle.std.proofs.Common.{◌≡◌, take}
use Rattle.meaning.specs.Listed.{listed}
use Rattle.meaning.proofs.listed.listed.Given as goal

-- the items found are those at the places so far
abbrev pub invariant-loop-place : goal.invariant-loop-place
invariant-loop-place g l = l.found.items ≡ listed (take l.place-index l.places) l.items
