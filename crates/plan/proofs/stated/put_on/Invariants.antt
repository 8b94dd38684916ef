-- What each round of `stated::put_on` keeps.
use Rattle.std.proofs.Common.{◌≡◌, ◌++◌, drop}
use Rattle.plan.specs.Picked.{put_on}
use Rattle.plan.proofs.stated.put_on.Given as goal

-- what was put out, and what the rest gives, is what all give
abbrev pub invariant-loop-cond : goal.invariant-loop-cond
invariant-loop-cond l = l.out.items ++ put_on l.places (drop l.cond-index l.conds) ≡ l.initial.out.items ++ put_on l.places l.conds
