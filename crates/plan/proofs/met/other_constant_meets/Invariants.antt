-- What each round of `met::other_constant_meets` keeps.
use Rattle.std.proofs.Common.{◌≡◌, ◌++◌, drop, flat_map}
use Rattle.std.specs.List.{list_any}
use Rattle.terms.specs.TestValues.{column_holds, constants, with_after}
use Rattle.plan.specs.Picked.{put_on}
use Rattle.plan.proofs.met.other_constant_meets.Given as goal

-- some constant meets the conditions if one of the rest does
abbrev pub invariant-loop-cond : goal.invariant-loop-cond
invariant-loop-cond l = list_any (column_holds (put_on l.places l.of_leaf ++ l.others) l.col) (flat_map with_after (constants (drop l.cond-index l.others) l.col)) ≡ list_any (column_holds (put_on l.places l.of_leaf ++ l.others) l.col) (flat_map with_after (constants l.others l.col))
