-- What each round of `select::pair` keeps.
use Rattle.std.proofs.Common.{◌≡◌, ◌++◌, take}
use Rattle.meaning.proofs.select.pair.Given as goal

-- the values so far are those of the row, and those of the other that were visited
abbrev pub invariant-loop-value : goal.invariant-loop-value
invariant-loop-value l = l.values.items ≡ l.row ++ take l.value-index l.other
