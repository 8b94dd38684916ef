-- What each round of `plan_tree::select_columns` keeps.
use Rattle.std.proofs.Common.{◌≡◌, ◌++◌, drop, flat_map}
use Rattle.lines.specs.PlanTree.{columns_joined, qualified_all}
use Rattle.lines.proofs.plan_tree.select_columns.Given as goal

-- the columns so far and those of the relations that are left are those of all
abbrev pub invariant-loop-join : goal.invariant-loop-join
invariant-loop-join l = l.columns.items ++ flat_map (λ join. qualified_all l.schema.relations join.relation.name) (drop l.join-index l.joins) ≡ columns_joined l.schema.relations l.select.from.name l.joins
