-- What each round of `update::assign` keeps.
use Rattle.std.proofs.Common.{◌≡◌, drop}
use Rattle.meaning.specs.Updated.{assign}
use Rattle.meaning.proofs.update.assign.Given as goal

-- the assignments that are left, in the values so far, give what all give in the row
abbrev pub invariant-loop-set : goal.invariant-loop-set
invariant-loop-set l = assign l.row (drop l.set-index l.sets) l.values.items ≡ assign l.row l.sets l.row
