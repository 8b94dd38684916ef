-- What each round of `fetch::placed` keeps.
use Rattle.std.proofs.Common.{◌≡◌, ◌++◌, drop}
use Rattle.plan.specs.Fetch.{placed}
use Rattle.plan.proofs.fetch.placed.Given as goal

-- what was found, and what the rest gives, is what all give
abbrev pub invariant-loop-cond : goal.invariant-loop-cond
invariant-loop-cond l = l.found.items ++ placed l.columns (drop l.cond-index l.conds) ≡ placed l.columns l.conds
