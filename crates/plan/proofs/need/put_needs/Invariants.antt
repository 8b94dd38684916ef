-- What each round of `need::put_needs` keeps.
use Rattle.std.proofs.Common.{◌≡◌, ◌++◌, length, drop}
use Rattle.plan.specs.Need.{needs_behind}
use Rattle.plan.proofs.need.put_needs.Given as goal

-- what was put out, and what the rest gives, is what all give
abbrev pub invariant-loop-join : goal.invariant-loop-join
invariant-loop-join l = l.out.items ++ needs_behind l.select l.links l.before (drop l.join-index l.select.joins) ≡ l.initial.out.items ++ needs_behind l.select l.links (length l.select.from.columns) l.select.joins
