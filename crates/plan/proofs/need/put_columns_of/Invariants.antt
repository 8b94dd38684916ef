-- What each round of `need::put_columns_of` keeps.
use Rattle.std.proofs.Common.{◌≡◌, ◌++◌, drop}
use Rattle.plan.specs.Need.{columns_of, places_of}
use Rattle.plan.proofs.need.put_columns_of.Given as goal

-- what was put out, and what the rest gives, is what all give
abbrev pub invariant-loop-cond : goal.invariant-loop-cond
invariant-loop-cond l = l.out.items ++ places_of l.before l.width (columns_of (drop l.cond-index l.conds)) ≡ l.initial.out.items ++ places_of l.before l.width (columns_of l.conds)
