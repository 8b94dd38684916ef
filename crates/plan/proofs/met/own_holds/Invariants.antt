-- What each round of `met::own_holds` keeps.
use Rattle.std.proofs.Common.{◌≡◌, drop}
use Rattle.terms.specs.TestValues.{column_holds}
use Rattle.plan.specs.Picked.{put_on}
use Rattle.plan.proofs.met.own_holds.Given as goal

-- all pass if the rest do
abbrev pub invariant-loop-cond : goal.invariant-loop-cond
invariant-loop-cond l = column_holds (put_on l.places (drop l.cond-index l.of_leaf)) l.col l.value ≡ column_holds (put_on l.places l.of_leaf) l.col l.value
