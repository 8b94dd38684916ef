-- What each round of `met::some_row_meets` keeps.
use Rattle.std.proofs.Common.{◌≡◌, ◌++◌, drop}
use Rattle.plan.specs.Picked.{can_be_met, columns_met, put_on}
use Rattle.plan.proofs.met.some_row_meets.Given as goal

-- all columns are met if the rest are
abbrev pub invariant-loop-col : goal.invariant-loop-col
invariant-loop-col l = columns_met (put_on l.places l.of_leaf ++ l.others) l.col (drop l.col l.kinds) ≡ can_be_met l.kinds (put_on l.places l.of_leaf ++ l.others)
