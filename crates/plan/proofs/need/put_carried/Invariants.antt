-- What each round of `need::put_carried` keeps.
use Rattle.std.proofs.Common.{◌≡◌, ◌++◌, drop}
use Rattle.plan.specs.Need.{carried}
use Rattle.plan.proofs.need.put_carried.Given as goal

-- what was put out, and what the rest gives, is what all give
abbrev pub invariant-loop-cond : goal.invariant-loop-cond
invariant-loop-cond l = l.out.items ++ carried l.links l.before l.width (drop l.cond-index l.conds) ≡ l.initial.out.items ++ carried l.links l.before l.width l.conds
