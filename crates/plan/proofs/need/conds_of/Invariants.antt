-- What each round of `need::conds_of` keeps.
use Rattle.std.proofs.Common.{◌≡◌, ◌++◌, drop}
use Rattle.plan.specs.Need.{conds_of}
use Rattle.plan.proofs.need.conds_of.Given as goal

-- what was put out, and what the rest gives, is what all give
abbrev pub invariant-loop-cond : goal.invariant-loop-cond
invariant-loop-cond l = l.found.items ++ conds_of l.before l.width (drop l.cond-index l.conds) ≡ conds_of l.before l.width l.conds
