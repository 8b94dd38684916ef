-- What each round of `unsent_by` keeps.
use Rattle.std.proofs.Common.{◌≡◌, ◌++◌, map}
use Rattle.std.specs.Vec.Iter.{into_iter_items}
use Rattle.desk.specs.Planned.{unsent_by}
use Rattle.desk.proofs.fetches.unsent_by.Given as goal

-- the writes so far, and those of the moves that are left, are all
abbrev pub invariant-loop-one : goal.invariant-loop-one
invariant-loop-one l = l.unsent.items ++ map unsent_by (into_iter_items l.one-iterator) ≡ map unsent_by l.fn.moves.items
