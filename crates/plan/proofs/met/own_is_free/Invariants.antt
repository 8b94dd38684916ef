-- What each round of `met::own_is_free` keeps.
use Rattle.std.proofs.Common.{◌≡◌, drop}
use Rattle.plan.specs.Picked.{is_free, put_on}
use Rattle.plan.proofs.met.own_is_free.Given as goal

-- all pass if the rest do
abbrev pub invariant-loop-cond : goal.invariant-loop-cond
invariant-loop-cond l = is_free (put_on l.places (drop l.cond-index l.of_leaf)) l.col ≡ is_free (put_on l.places l.of_leaf) l.col
